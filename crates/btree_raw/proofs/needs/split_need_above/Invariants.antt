use Rattle.std.specs.FinMap as map
use Rattle.btree_raw.proofs.Common.{levels_above, node_map, IsFull, HasParent, IsCountingSplits}
use Rattle.btree_raw.proofs.needs.split_need_above.Given as goal

abbrev pub invariant-loop-above : goal.invariant-loop-above
invariant-loop-above g l = record {
  counting : IsCountingSplits (node_map l.tree) (map.len l.tree.nodes) l.start l.id l.counted;
  full : IsFull (node_map l.tree) l.id;
  parent : HasParent (node_map l.tree) l.id l.above;
}

abbrev pub decreases-loop-above : goal.decreases-loop-above
decreases-loop-above g l = levels_above (node_map l.tree) (map.len l.tree.nodes) l.id
