use Rattle.btree_raw.proofs.Common.{node_map}
use Rattle.btree_raw.proofs.BorrowLemmas.{can-right, borrowed-right, right-back, index-few}
use Rattle.btree_raw.proofs.OffsetLemmas.{offset-next}
use Rattle.btree_raw.proofs.borrow.borrow_from_left.Goals as goal

pub rotate_right-requires : goal.rotate_right-requires
rotate_right-requires g c = can-right (node_map c.args.tree.now) c.args.siblings c.args.siblings.right c.args.addr c.requires.adjacent

pub returns-in-Ok-clause-here : goal.returns-in-Ok-clause-here
returns-in-Ok-clause-here g c = rw c.moved_by_rotate_right.ensures (borrowed-right (node_map c.args.tree.now) c.args.siblings c.args.siblings.right c.args.addr c.requires.adjacent c.in-Ok.count c.in-Ok.ensures.count c.in-Ok.child c.in-Ok.ensures.first c.requires.short c.in-Ok.ensures.spare (node_map c.rotate_right.new.tree) c.in-Ok.ensures.rotates.nodes)

pub returns-in-Ok-clause-back : goal.returns-in-Ok-clause-back
returns-in-Ok-clause-back g c = λ is. rw c.moved_by_rotate_right.ensures (right-back c.args.siblings c.in-Ok.count c.in-Ok.child c.args.addr is)

pub moved_by_rotate_right-requires-clause-index : goal.moved_by_rotate_right-requires-clause-index
moved_by_rotate_right-requires-clause-index g c = index-few (node_map c.args.tree.now) c.args.siblings c.args.siblings.right c.args.addr c.requires.adjacent

pub moved_by_rotate_right-requires-clause-offset : goal.moved_by_rotate_right-requires-clause-offset
moved_by_rotate_right-requires-clause-offset g c = offset-next c.args.addr.offset c.requires.low
