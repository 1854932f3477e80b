use Rattle.std.specs.FinMap as map
use Rattle.btree_owned_walk.proofs.Common.{node_map}
use Rattle.btree_laws.specs.TreeState.{KeepsRest}
use Rattle.btree_owned_walk.proofs.StepLemmas.{IsReleasing}
use Rattle.btree_owned_walk.proofs.spent.release_spent.Given as goal

abbrev pub invariant-loop-tree : goal.invariant-loop-tree
invariant-loop-tree g l = IsReleasing (node_map l.initial.tree) (node_map l.tree) l.start l.id × KeepsRest l.initial.tree l.tree

abbrev pub decreases-loop-tree : goal.decreases-loop-tree
decreases-loop-tree g l = map.len l.tree.nodes
