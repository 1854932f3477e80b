use Rattle.std.specs.FinMap as map
use Rattle.btree_find.proofs.Common.{levels_above, node_map}
use Rattle.btree_find.proofs.PreviousLemmas.{ClimbsBefore}
use Rattle.btree_find.proofs.navigation.item_before.Given as goal

abbrev pub invariant-loop-parent : goal.invariant-loop-parent
invariant-loop-parent g l = ClimbsBefore l.tree l.start_id l.id l.node

abbrev pub decreases-loop-parent : goal.decreases-loop-parent
decreases-loop-parent g l = levels_above (node_map l.tree) (map.len l.tree.nodes) l.id
