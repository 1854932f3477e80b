use Rattle.btree_walk.proofs.Common.{length}
use Rattle.btree_walk.proofs.WalkLemmas.{ahead}
use Rattle.btree_walk.proofs.WayLemmas.{IsUp}
use Rattle.btree_walk.proofs.ancestors.next_above.Given as goal

abbrev pub invariant-loop-ancestor : goal.invariant-loop-ancestor
invariant-loop-ancestor g l = IsUp (ahead l.tree) l.initial.ancestors l.ancestors

abbrev pub decreases-loop-ancestor : goal.decreases-loop-ancestor
decreases-loop-ancestor g l = length l.ancestors
