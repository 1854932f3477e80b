use Rattle.std.proofs.Common.{◌≡◌, ◌-◌, ◌≤◌, IfSome, length, slice_get}
use Rattle.btree_laws.specs.TreeAddresses.{backs_of}
use Rattle.btree_laws.specs.TreeState.{IsValidIn}
use Rattle.test_tree.proofs.visits.visit_backs.Given as goal

abbrev pub invariant-loop-next : goal.invariant-loop-next
invariant-loop-next g l = record {
  here : l.next ≡ slice_get (backs_of l.tree) l.passed.count;
  valid : IfSome l.next (IsValidIn l.tree);
  within : l.passed.count ≤ length (backs_of l.tree);
}

abbrev pub decreases-loop-next : goal.decreases-loop-next
decreases-loop-next g l = length (backs_of l.tree) - l.passed.count
