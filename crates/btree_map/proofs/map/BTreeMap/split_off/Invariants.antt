use Rattle.btree_map.proofs.Common.{◌≡◌, ◌++◌, [], length, Included, pairs_of, AddsNoNode}
use Rattle.btree_map.specs.Splitting.{AreFrom}
use Rattle.btree_map.proofs.map.BTreeMap.split_off.Given as goal

abbrev pub invariant-loop-last : goal.invariant-loop-last
invariant-loop-last g l = record {
  uncounted : l.self.kept ≡ l.initial.self.kept;
  moved_uncounted : l.other.kept ≡ l.initial.other.kept;
  split : pairs_of l.initial.self ≡ pairs_of l.self ++ pairs_of l.other;
  from : AreFrom g.K.Ord.cmp (Included l.fn.key) (pairs_of l.other);
  none : pairs_of l.other ≡ [] → l.self ≡ l.initial.self;
  frees : AddsNoNode l.initial.self l.self;
}

abbrev pub decreases-loop-last : goal.decreases-loop-last
decreases-loop-last g l = length (pairs_of l.self)
