use Rattle.btree_internal.proofs.Common.{ap, sym, ◌∙◌, arith, slice_get, common_steps}
use Rattle.btree_internal.proofs.BranchLemmas.{children_are}
use Rattle.btree_internal.proofs.internal.InternalNode.child_id.Goals as goal

pub returns : goal.returns
returns g c = ap (λ l. slice_get l c.args.index) (sym (children_are c.args.self.now _ c.self.inside.first c.self.inside.branches c.self.view_is)) ∙ c.child_id_among.ensures

pub child_id_among-requires : goal.child_id_among-requires
child_id_among-requires g c = grind (arith, common_steps) steps 2000000
