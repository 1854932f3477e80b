use Rattle.btree_walk.proofs.Common.{◌≡◌, ◌+◌, ◌-◌, ◌≤◌}
use Rattle.btree_walk.specs.Preceding.{kept_in_leaf}
use Rattle.btree_walk.proofs.backward.run_to.Given as goal

abbrev pub invariant-loop : goal.invariant-loop
invariant-loop g l = record {
  left : l.run ≡ kept_in_leaf l.leaf (l.kept + l.end - l.counter);
  low : l.counter ≤ l.end;
}
