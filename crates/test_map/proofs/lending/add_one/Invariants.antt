use Rattle.std.proofs.Common.{◌≡◌, ◌-◌, ◌≤◌, length}
use Rattle.btree_laws.specs.TreeAddresses.{item_addresses_of}
use Rattle.btree_laws.specs.TreeState.{pairs_of}
use Rattle.test_map.specs.Raised.{greater_by}
use Rattle.test_map.proofs.ChangedLemmas.{changed}
use Rattle.test_map.proofs.lending.add_one.Given as goal

abbrev pub invariant-loop-pairs : goal.invariant-loop-pairs
invariant-loop-pairs g l = record {
  same_map : l.pairs.map.ghost_name ≡ l.initial.pairs.map.ghost_name;
  back : l.pairs.back ≡ length (pairs_of l.fn.map);
  front : l.pairs.front ≤ length (pairs_of l.fn.map);
  pairs : pairs_of l.pairs.map.now ≡ changed (greater_by 1) l.pairs.front (pairs_of l.fn.map);
  addresses : item_addresses_of l.pairs.map.now ≡ item_addresses_of l.fn.map;
  uncounted : l.pairs.map.now.kept ≡ l.fn.map.kept;
}

abbrev pub decreases-loop-pairs : goal.decreases-loop-pairs
decreases-loop-pairs g l = l.pairs.back - l.pairs.front
