use Rattle.std.specs.FinMap as map
use Rattle.btree_walk.proofs.Common.{levels_below, node_map, bound_key, list_under, pair_now}
use Rattle.btree_walk.proofs.NearRowLemmas.{IsGoingDown}
use Rattle.btree_walk.proofs.near.last_under.Given as goal

abbrev pub invariant-loop-leaf : goal.invariant-loop-leaf
invariant-loop-leaf g l = IsGoingDown g.met.K.Ord.total (bound_key l.end) l.tree (list_under l.tree l.top) (pair_now l.last) l.id

abbrev pub decreases-loop-leaf : goal.decreases-loop-leaf
decreases-loop-leaf g l = levels_below (node_map l.tree) (map.len l.tree.nodes) l.id
