use Rattle.btree_raw.proofs.Common.{take, view_of, children_of, Reparents, Changes}
use Rattle.btree_raw.proofs.node_changes.adopt.Given as goal

abbrev pub invariant-loop-index : goal.invariant-loop-index
invariant-loop-index g l = Changes (λ a b. Reparents a b l.parent (take l.index (children_of (view_of l.node)))) l.fn.tree l.tree
