use Rattle.std.proofs.Common.{◌≡◌, ◌-◌, ◌≤◌, length}
use Rattle.btree_laws.specs.TreeState.{pairs_of}
use Rattle.test_map.specs.Raised.{greater_by}
use Rattle.test_map.proofs.ChangedLemmas.{changed}
use Rattle.test_map.proofs.lending.add_one_to_each.Given as goal

abbrev pub invariant-loop-values : goal.invariant-loop-values
invariant-loop-values l = record {
  same_map : l.values.map.ghost_name ≡ l.initial.values.map.ghost_name;
  back : l.values.back ≡ length (pairs_of l.fn.map);
  front : l.values.front ≤ length (pairs_of l.fn.map);
  pairs : pairs_of l.values.map.now ≡ changed (greater_by 1) l.values.front (pairs_of l.fn.map);
}

abbrev pub decreases-loop-values : goal.decreases-loop-values
decreases-loop-values l = l.values.back - l.values.front
