use Rattle.std.specs.FinMap as map
use Rattle.btree_find.proofs.Common.{levels_below, node_map}
use Rattle.btree_raw.proofs.LastLemmas.{DescendsRight}
use Rattle.btree_find.proofs.navigation.rightmost_leaf.Given as goal

abbrev pub invariant-loop-child : goal.invariant-loop-child
invariant-loop-child g l = DescendsRight l.tree l.top l.id

abbrev pub decreases-loop-child : goal.decreases-loop-child
decreases-loop-child g l = levels_below (node_map l.tree) (map.len l.tree.nodes) l.id
