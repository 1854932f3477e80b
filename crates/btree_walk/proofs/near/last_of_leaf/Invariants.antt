use Rattle.btree_walk.proofs.Common.{length, bound_key, pair_past, pair_now, remaining_in_leaf}
use Rattle.btree_walk.proofs.NearLemmas.{IsCutting}
use Rattle.btree_walk.proofs.near.last_of_leaf.Given as goal

abbrev pub invariant-loop-pair : goal.invariant-loop-pair
invariant-loop-pair g l = IsCutting (pair_past g.K.Ord.cmp (bound_key l.end)) (remaining_in_leaf l.leaf l.passed) (pair_now l.last) (remaining_in_leaf l.leaf l.index)

abbrev pub decreases-loop-pair : goal.decreases-loop-pair
decreases-loop-pair g l = length (remaining_in_leaf l.leaf l.index)
