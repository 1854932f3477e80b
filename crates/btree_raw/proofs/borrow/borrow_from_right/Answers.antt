use Rattle.btree_raw.proofs.Common.{arith, node_map}
use Rattle.btree_raw.proofs.BorrowLemmas.{can-left, borrowed-left, left-back, index-few, count-low}
use Rattle.btree_raw.proofs.borrow.borrow_from_right.Goals as goal

pub rotate_left-requires : goal.rotate_left-requires
rotate_left-requires g c = can-left (node_map c.args.tree.now) c.args.siblings c.args.siblings.left c.args.addr c.requires.adjacent

pub returns-in-Ok-clause-here : goal.returns-in-Ok-clause-here
returns-in-Ok-clause-here g c = rw c.moved_by_rotate_left.ensures (borrowed-left (node_map c.args.tree.now) c.args.siblings c.args.siblings.left c.args.addr c.requires.adjacent c.args.count c.requires.count c.in-Ok.child c.in-Ok.ensures.first c.requires.short c.in-Ok.ensures.spare (node_map c.rotate_left.new.tree) c.in-Ok.ensures.rotates.nodes)

pub returns-in-Ok-clause-back : goal.returns-in-Ok-clause-back
returns-in-Ok-clause-back g c = λ is. rw c.moved_by_rotate_left.ensures (left-back c.args.siblings c.args.count c.in-Ok.child c.args.addr is)

pub moved_by_rotate_left-requires-clause-index : goal.moved_by_rotate_left-requires-clause-index
moved_by_rotate_left-requires-clause-index g c = index-few (node_map c.args.tree.now) c.args.siblings c.args.siblings.left c.args.addr c.requires.adjacent

pub moved_by_rotate_left-requires-clause-count : goal.moved_by_rotate_left-requires-clause-count
moved_by_rotate_left-requires-clause-count g c = let l = count-low (node_map c.args.tree.now) c.args.siblings c.args.siblings.left c.args.addr c.requires.adjacent c.args.count c.requires.count in omega arith
