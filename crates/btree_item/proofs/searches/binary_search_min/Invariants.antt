use Rattle.btree_item.proofs.Common.{◌≤◌, ◌-◌, length, map}
use Rattle.btree_item.specs.Keys.{AllAbove, IsAtMostBefore}
use Rattle.btree_item.proofs.searches.binary_search_min.Given as goal

abbrev pub invariant-loop-low : goal.invariant-loop-low
invariant-loop-low g l = record {
  ordered : l.low ≤ l.high;
  within : l.high ≤ length l.slots;
  at_most : IsAtMostBefore g.T.Key.Ord.cmp l.key l.low (map g.T.Keyed.key_of l.slots);
  above : AllAbove g.T.Key.Ord.cmp l.key l.high (map g.T.Keyed.key_of l.slots);
}

abbrev pub decreases-loop-low : goal.decreases-loop-low
decreases-loop-low g l = l.high - l.low
