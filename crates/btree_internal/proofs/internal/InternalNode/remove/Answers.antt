use Rattle.btree_internal.proofs.Common.{sym, arith, rules, common_steps}
use Rattle.btree_internal.proofs.BranchLemmas.{long_as_branches, child_behind, remove-view, there}
use Rattle.btree_internal.proofs.InternalSizes.{fits-slots}
use Rattle.btree_internal.proofs.internal.InternalNode.remove.Goals as goal

pub returns-clause-item : goal.returns-clause-item
returns-clause-item g c =
    rw c.unwrap-index.ensures.value (sym (there c.args.self.now _ c.self.inside.first c.self.inside.branches c.self.view_is c.unwrap-index.result c.remove-item.result c.remove-item.ensures.answer))

pub returns-clause-right : goal.returns-clause-right
returns-clause-right g c =
    rw c.unwrap-index.ensures.value (sym (child_behind c.args.self.now _ c.self.inside.first c.self.inside.branches c.self.view_is c.unwrap-index.result c.remove-item.result c.remove-item.ensures.answer))

pub returns-clause-after : goal.returns-clause-after
returns-clause-after g c =
    rw c.unwrap-index.ensures.value (remove-view c.args.self.now _ c.self.inside.first c.self.inside.branches c.self.view_is _ c.unwrap-index.result c.remove-item.ensures.after)

pub unwrap-index-requires : goal.unwrap-index-requires
unwrap-index-requires g c = grind (arith, common_steps) steps 2000000

pub child_id-left-requires : goal.child_id-left-requires
child_id-left-requires g c = grind (arith, common_steps) steps 2000000

pub remove-item-requires : goal.remove-item-requires
remove-item-requires g c =
    let long = long_as_branches c.args.self.now _ c.self.inside.first c.self.inside.branches c.self.view_is in
    let low = rw c.unwrap-index.ensures.value at c.requires in
    (search fits-slots, omega (arith, long, low))

pub returns-clause-left : goal.returns-clause-left
returns-clause-left g c = search rules steps 200000
