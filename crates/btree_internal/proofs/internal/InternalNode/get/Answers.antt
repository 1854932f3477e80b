use Rattle.btree_internal.proofs.Common.{Some, Ok, ap, sym, ◌∙◌, arith, rules, internal_view, common_steps}
use Rattle.btree_item.proofs.PairLemmas.{before-from_Err}
use Rattle.btree_internal.proofs.BranchLemmas.{long_as_branches, there}
use Rattle.btree_internal.proofs.LookUpLemmas.{look_up-Ok, look_up-Err}
use Rattle.btree_internal.proofs.InternalSizes.{fits-slots}
use Rattle.btree_internal.proofs.internal.InternalNode.get.Goals as goal

pub returns-in-Ok : goal.returns-in-Ok
returns-in-Ok g c =
    let finds = sym c.in-Ok.ensures.here ∙ there c.args.self.now _ c.self.inside.first c.self.inside.branches c.self.view_is c.in-Ok.index c.branch_at.result.now c.branch_at.ensures in
    ap (λ v. Ok (Some v)) c.value.ensures ∙ sym (look_up-Ok g.K.Ord.cmp c.args.key.now (internal_view c.args.self.now) _ finds)

pub returns-in-Err : goal.returns-in-Err
returns-in-Err g c =
    sym (look_up-Err g.K.Ord.cmp c.args.key.now (internal_view c.args.self.now) _ _ c.in-Err.ensures.absent (before-from_Err g.K.Ord.cmp c.args.key.now _ _ (sym c.in-Err.ensures.place)) c.child_id.ensures)

pub find-requires : goal.find-requires
find-requires g c = search rules steps 200000

pub branch_at-requires : goal.branch_at-requires
branch_at-requires g c =
    let long = long_as_branches c.args.self.now _ c.self.inside.first c.self.inside.branches c.self.view_is in
    (search fits-slots, omega (arith, long, c.in-Ok.ensures.within))

pub value-requires : goal.value-requires
value-requires g c κs = search rules steps 200000

pub child_id-requires : goal.child_id-requires
child_id-requires g c = grind (arith, common_steps) steps 2000000
