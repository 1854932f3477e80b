use Rattle.btree_find.proofs.Common.{◌-◌, node_map, pairs_of}
use Rattle.btree_find.proofs.HeightLemmas.{IsDescending}
use Rattle.btree_find.proofs.search.height.Given as goal

abbrev pub invariant-loop-child : goal.invariant-loop-child
invariant-loop-child g l =
    IsDescending (node_map l.tree) l.root (pairs_of l.tree) l.id l.levels

abbrev pub decreases-loop-child : goal.decreases-loop-child
decreases-loop-child g l = 33 - l.levels
