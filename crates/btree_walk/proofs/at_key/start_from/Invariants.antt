use Rattle.btree_walk.proofs.Common.{◌-◌, length, pairs_of}
use Rattle.btree_walk.proofs.FromLemmas.{IsFrom}
use Rattle.btree_walk.proofs.at_key.start_from.Given as goal

abbrev pub invariant-loop-leaf : goal.invariant-loop-leaf
invariant-loop-leaf g l = IsFrom g.K.Ord.cmp l.key l.tree (pairs_of l.tree) l.ancestors l.id

abbrev pub decreases-loop-leaf : goal.decreases-loop-leaf
decreases-loop-leaf g l = 32 - length l.ancestors
