use Rattle.std.proofs.Common.{map as each}
use Rattle.std.proofs.Common.{◌≡◌, ◌-◌}
use Rattle.btree_laws.specs.TreeAddresses.{item_addresses_of}
use Rattle.btree_laws.specs.TreeState.{pairs_of}
use Rattle.btree_map.specs.RangeCursor.{range_back, range_front}
use Rattle.test_map.specs.Raised.{greater_between, greater_by}
use Rattle.test_map.proofs.BetweenLemmas.{finished}
use Rattle.test_map.proofs.lending.add_to_range.Given as goal

abbrev pub invariant-loop-pairs : goal.invariant-loop-pairs
invariant-loop-pairs g l = record {
  same_map : l.pairs.map.ghost_name ≡ l.initial.pairs.map.ghost_name;
  pairs : finished (greater_by l.fn.more) (range_front l.pairs) (range_back l.pairs) (pairs_of l.pairs.map.now)
      ≡ each (greater_between g.K.Ord.cmp l.fn.range l.fn.more) (pairs_of l.fn.map);
  addresses : item_addresses_of l.pairs.map.now ≡ item_addresses_of l.fn.map;
  uncounted : l.pairs.map.now.kept ≡ l.fn.map.kept;
}

abbrev pub decreases-loop-pairs : goal.decreases-loop-pairs
decreases-loop-pairs g l = range_back l.pairs - range_front l.pairs
