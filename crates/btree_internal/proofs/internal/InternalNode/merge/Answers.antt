use Rattle.btree_internal.proofs.BranchLemmas.{long_as_branches, remove-view, there}
use Rattle.btree_internal.proofs.InternalSizes.{fits-slots}
use Rattle.btree_internal.proofs.internal.InternalNode.merge.Goals as goal
use Rattle.btree_internal.proofs.Common.{arith, rules}

pub returns-clause-item : goal.returns-clause-item
returns-clause-item g c = there c.args.self.now _ c.self.inside.first c.self.inside.branches c.self.view_is c.args.left c.remove-item.result c.remove-item.ensures.answer

pub returns-clause-after : goal.returns-clause-after
returns-clause-after g c = remove-view c.args.self.now _ c.self.inside.first c.self.inside.branches c.self.view_is _ _ c.remove-item.ensures.after

pub child_id-left_id-requires : goal.child_id-left_id-requires
child_id-left_id-requires g c = omega arith

pub child_id-right_id-requires : goal.child_id-right_id-requires
child_id-right_id-requires g c = omega arith

pub remove-item-requires : goal.remove-item-requires
remove-item-requires g c =
    let long = long_as_branches c.args.self.now _ c.self.inside.first c.self.inside.branches c.self.view_is in
    (search fits-slots, omega (arith, long, c.requires.next, c.requires.within))

pub balance-requires : goal.balance-requires
balance-requires g c = omega arith

pub returns-clause-index : goal.returns-clause-index
returns-clause-index g c = search rules steps 200000

pub returns-clause-left : goal.returns-clause-left
returns-clause-left g c = search rules steps 200000

pub returns-clause-right : goal.returns-clause-right
returns-clause-right g c = search rules steps 200000

pub returns-clause-balance : goal.returns-clause-balance
returns-clause-balance g c = search rules steps 200000
