use Rattle.btree_owned_walk.proofs.Common.{◌-◌, node_map}
use Rattle.btree_owned_walk.proofs.StepLemmas.{GoesToFirst}
use Rattle.btree_owned_walk.proofs.front.first_node.Given as goal

abbrev pub invariant-loop-child : goal.invariant-loop-child
invariant-loop-child g l = GoesToFirst (node_map l.tree) l.fn.from l.id l.levels.count

abbrev pub decreases-loop-child : goal.decreases-loop-child
decreases-loop-child g l = 32 - l.levels.count
