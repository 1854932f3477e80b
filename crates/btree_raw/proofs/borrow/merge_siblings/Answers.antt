use Rattle.btree_raw.proofs.Common.{arith, node_map}
use Rattle.btree_raw.proofs.BorrowLemmas.{can-merge, joined-both, joined-back, count-low, offset-far}
use Rattle.btree_raw.proofs.borrow.merge_siblings.Goals as goal

pub merge-count-requires : goal.merge-count-requires
merge-count-requires g c = can-merge (node_map c.args.tree.now) c.args.siblings c.requires.adjacent.0 c.args.addr c.requires.adjacent.1 c.requires.few

pub returns-clause-above : goal.returns-clause-above
returns-clause-above g c = λ id s. rw c.moved_by_merge.ensures (joined-both (node_map c.args.tree.now) c.args.siblings id c.args.addr s c.merge-count.result.0 c.merge-count.ensures.count c.merge-count.result.1 c.merge-count.ensures.first c.requires.few (node_map c.merge-count.new.tree) c.merge-count.ensures.merges.nodes)

pub returns-clause-back : goal.returns-clause-back
returns-clause-back g c = λ is. rw c.moved_by_merge.ensures (joined-back c.args.siblings c.merge-count.result.0 c.merge-count.result.1 c.args.addr is)

pub moved_by_merge-requires-clause-count : goal.moved_by_merge-requires-clause-count
moved_by_merge-requires-clause-count g c = let l = count-low (node_map c.args.tree.now) c.args.siblings c.requires.adjacent.0 c.args.addr c.requires.adjacent.1 c.merge-count.result.0 c.merge-count.ensures.count in omega arith

pub moved_by_merge-requires-clause-offset : goal.moved_by_merge-requires-clause-offset
moved_by_merge-requires-clause-offset g c = offset-far c.merge-count.result.0 (count-low (node_map c.args.tree.now) c.args.siblings c.requires.adjacent.0 c.args.addr c.requires.adjacent.1 c.merge-count.result.0 c.merge-count.ensures.count) c.args.addr.offset c.requires.low
