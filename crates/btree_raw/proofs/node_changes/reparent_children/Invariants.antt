use Rattle.btree_raw.proofs.Common.{take, children_in, Reparents, Changes, node_map}
use Rattle.btree_raw.proofs.node_changes.reparent_children.Given as goal

abbrev pub invariant-loop-index : goal.invariant-loop-index
invariant-loop-index g l = Changes (λ a b. Reparents a b l.id (take l.index (children_in (node_map l.fn.tree l.id)))) l.fn.tree l.tree
