-- A map of ranges as contracts see it: its ranges in order, and what is kept beside them: how often its store has
-- refused, and the greatest number of ranges.
use Rattle.std.specs.Prelude.{◌≡◌, ℕ, ◌+◌, ◌<◌, ◌≤◌, List, length, ◌⊎◌, refl}
use Rattle.std.specs.Coded.{Coded, code_by, coded_ℕ, coded_list, coded×}
use Rattle.std.specs.Ordering.{nat_cmp}
use Rattle.btree_store.specs.Content.{Content}
use Rattle.btree_node.specs.declared.node.Node.{Node}
use Rattle.btree_laws.specs.TreeState.{IsBTree, Kept, TreeState, coded_kept, pairs_of, refused_once}
use Rattle.btree_range_map.specs.declared.refused.RangeCause.{RangeCause}
use Rattle.btree_range_map.specs.declared.refused.RangeCause.TheVariants.{Store, Count, Clone}
use Rattle.btree_range_map.specs.declared.span.Span.{Span}
use Rattle.btree_range_map.specs.Ranges.{CutsOne}

-- a map of ranges as contracts see it: its ranges in order, its limit and its count of refusals
pub record RangeState (V : Type 0) : Type 0 where
  pub ranges : List (ℕ × Span V)
  pub kept : Kept

module _ {V : Type 0} where
  abbrev pub range_code : Coded (Span V) → Coded (RangeState V)
  range_code code =
      code_by
      (List (ℕ × Span V) × Kept)
      (coded× (coded_list (coded× coded_ℕ code)) coded_kept)
      (λ s. (s.ranges, s.kept))
      (λ p. record { ranges = p.0; kept = p.1 })
      (λ _. refl)

  -- that of a map from the start of each range to its span
  abbrev pub ranges_of : TreeState ℕ (Span V) → RangeState V
  ranges_of map = record { ranges = pairs_of map; kept = map.kept }

  -- the nodes are those of a map from the start of each range to its span
  abbrev pub HoldsRanges : Content (Node ℕ (Span V)) → RangeState V → Type 0
  HoldsRanges nodes s = (map : TreeState ℕ (Span V)) × IsBTree nat_cmp map × (ranges_of map ≡ s) × (nodes ≡ map.nodes)

  -- a clone may fail, of a store with nodes that hold the ranges
  abbrev pub FailsOver : (MayFail : Content (Node ℕ (Span V)) → Type 0) → RangeState V → Type 0
  FailsOver MayFail s = (nodes : Content (Node ℕ (Span V))) × HoldsRanges nodes s × MayFail nodes

module _ {V : Type 0} (old new : RangeState V) (more : ℕ) where
  -- with the cause `Store` one more refusal is counted, and there are fewer ranges than there may be; with the cause
  -- `Count` so many more are more than there may be; with the cause `Clone` no node was refused
  abbrev pub CountsRefusal : RangeCause → Type 0
  CountsRefusal Store = (new.kept ≡ refused_once old.kept) × (length old.ranges < old.kept.limit)
  CountsRefusal Count = (new.kept ≡ old.kept) × (old.kept.limit < length old.ranges + more)
  CountsRefusal Clone = ⊥

  -- a call that adds at most so many ranges was refused, and every range stays
  pub record IsRefused (cause : RangeCause) : Type 0 where
    pub ranges : new.ranges ≡ old.ranges
    pub counts : CountsRefusal cause

module _ {V : Type 0} (infallible : V → Type 0) (old new : RangeState V) (start end : ℕ) where
  -- no clone of a value was made, and nothing changes: the numbers from `start` up to `end` are inside one range, at neither
  -- of its ends, and the clone of its value may fail
  pub record FailsToClone (cause : RangeCause) : Type 0 where
    pub is : cause ≡ Clone
    pub ranges : new.ranges ≡ old.ranges
    pub uncounted : new.kept ≡ old.kept
    pub cut : CutsOne old.ranges start end
    pub may_fail : infallible cut.range.1.value → ⊥

  -- a removal of these numbers was refused: it adds one range, and clones a value
  abbrev pub IsRemoveRefused : RangeCause → Type 0
  IsRemoveRefused cause = IsRefused old new 1 cause ⊎ FailsToClone cause

  -- an insertion of these numbers was refused: it adds one range, or two if they are inside one range, at neither of its ends
  abbrev pub IsInsertRefused : RangeCause → Type 0
  IsInsertRefused cause = IsRefused old new 1 cause ⊎ (CutsOne old.ranges start end × IsRefused old new 2 cause) ⊎ FailsToClone cause

module _ {V : Type 0} (old new : RangeState V) where
  -- if there are more ranges than before, they are no more than there may be
  abbrev pub GrowsWithinLimit : Type 0
  GrowsWithinLimit = length old.ranges < length new.ranges → length new.ranges ≤ old.kept.limit

module _ {V : Type 0} (infallible : V → Type 0) (old new : RangeState V) (start end : ℕ) where
  -- the last of several insertions, of these numbers, was refused, with the ranges that there are now; no other was
  abbrev pub CountsLastRefusal : RangeCause → Type 0
  CountsLastRefusal cause = IsInsertRefused infallible (record new { kept = old.kept }) new start end cause
