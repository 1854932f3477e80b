use Rattle.btree_walk.proofs.Common.{◌≡◌, remaining_in_leaf}
use Rattle.btree_walk.proofs.iter.run_from.Given as goal

abbrev pub invariant-loop : goal.invariant-loop
invariant-loop g l = l.run ≡ remaining_in_leaf l.leaf l.counter
