use Rattle.std.proofs.Common.{◌≡◌, ◌-◌, ◌≤◌, IfSome, length}
use Rattle.btree_laws.specs.TreeAddresses.{fronts_of}
use Rattle.btree_laws.specs.TreeState.{IsValidIn}
use Rattle.btree_laws.specs.Visits.{prior}
use Rattle.test_tree.proofs.visits.visit_fronts.Given as goal

abbrev pub invariant-loop-next : goal.invariant-loop-next
invariant-loop-next g l = record {
  here : l.next ≡ prior (fronts_of l.tree) (length (fronts_of l.tree) - l.passed.count);
  valid : IfSome l.next (IsValidIn l.tree);
  within : l.passed.count ≤ length (fronts_of l.tree);
}

abbrev pub decreases-loop-next : goal.decreases-loop-next
decreases-loop-next g l = length (fronts_of l.tree) - l.passed.count
