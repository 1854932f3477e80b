use Rattle.std.specs.FinMap as map
use Rattle.btree_find.proofs.Common.{levels_above, node_map}
use Rattle.btree_find.proofs.WalkLemmas.{Climbs}
use Rattle.btree_find.proofs.navigation.item_from.Given as goal

abbrev pub invariant-loop-offset : goal.invariant-loop-offset
invariant-loop-offset g l = Climbs l.tree l.start_id l.start_offset l.id l.offset l.node

abbrev pub decreases-loop-offset : goal.decreases-loop-offset
decreases-loop-offset g l = levels_above (node_map l.tree) (map.len l.tree.nodes) l.id
