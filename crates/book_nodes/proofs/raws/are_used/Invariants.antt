use Rattle.std.proofs.Common.{take}
use Rattle.btree_node.specs.Node.{view_of}
use Rattle.btree_view.specs.View.{children_of}
use Rattle.btree_raw.specs.Raw.{AreUsed}
use Rattle.book_nodes.proofs.raws.are_used.Given as goal

abbrev pub invariant-loop-index : goal.invariant-loop-index
invariant-loop-index g l = AreUsed l.raw.nodes (take l.index (children_of (view_of l.node)))
