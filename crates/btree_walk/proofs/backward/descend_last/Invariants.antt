use Rattle.btree_walk.proofs.Common.{◌++◌, ◌-◌, length, list_under, AreFetched}
use Rattle.btree_walk.specs.Preceding.{preceding_in_ancestors}
use Rattle.btree_walk.proofs.BackLemmas.{behind}
use Rattle.btree_walk.proofs.WayLemmas.{IsDown}
use Rattle.btree_walk.proofs.backward.descend_last.Given as goal

abbrev pub invariant-loop-leaf : goal.invariant-loop-leaf
invariant-loop-leaf g l = record {
  down : IsDown (behind l.tree) (preceding_in_ancestors l.tree l.initial.ancestors ++ list_under l.tree l.fn.top) l.ancestors l.id;
  fetched : AreFetched l.tree l.fetched;
}

abbrev pub decreases-loop-leaf : goal.decreases-loop-leaf
decreases-loop-leaf g l = 32 - length l.ancestors
