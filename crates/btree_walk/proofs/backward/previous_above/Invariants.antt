use Rattle.btree_walk.proofs.Common.{length, AreFetched}
use Rattle.btree_walk.proofs.BackLemmas.{behind}
use Rattle.btree_walk.proofs.WayLemmas.{IsUp}
use Rattle.btree_walk.proofs.backward.previous_above.Given as goal

abbrev pub invariant-loop-ancestor : goal.invariant-loop-ancestor
invariant-loop-ancestor g l = record {
  up : IsUp (behind l.tree) l.initial.ancestors l.ancestors;
  fetched : AreFetched l.tree l.fetched;
}

abbrev pub decreases-loop-ancestor : goal.decreases-loop-ancestor
decreases-loop-ancestor g l = length l.ancestors
