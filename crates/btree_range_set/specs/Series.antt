-- What a series of insertions or removals leaves of a set, by ranges that an iterator gives. `GoesThrough` says how far the
-- iterator was stepped. The words after it are for insertions and removals, of all ranges or of those before a refused one.
use Rattle.std.specs.Prelude.{ℕ, List, Option, None, Some}
use Rattle.std.specs.Iterator.{YieldsThen}
use Rattle.btree_item.specs.declared.refused.Cause.{Cause}
use Rattle.btree_item.specs.declared.refused.Refused.{Refused}
use Rattle.btree_range_set.specs.State.{CountsRefusal, RangeState}
use Rattle.btree_range_set.specs.TwoSets.{IsDifferenceWith, IsUnionWith}

-- an iterator gave ranges, which left this of the old set, and then the outcome: `None`, or a range that was refused. It
-- still has what comes after
pub record GoesThrough {S : Type 0} (Leaves : (old given new : List (ℕ × ℕ)) → Type 0) (steps : S → Option (ℕ × ℕ) → S → Type 0)
    (old : RangeState) (source : S) (outcome : Option (ℕ × ℕ)) (new : RangeState) (rest : S) : Type 0 where
  pub given : List (ℕ × ℕ)
  pub yields : YieldsThen steps source given outcome rest
  pub leaves : Leaves old.ranges given new.ranges

module _ {S : Type 0} (steps : S → Option (ℕ × ℕ) → S → Type 0) (old : RangeState) (source : S) (new : RangeState) (rest : S) where
  -- the numbers of all ranges were added
  abbrev pub AddsRanges : Type 0
  AddsRanges = GoesThrough IsUnionWith steps old source None new rest

  -- those of the ranges before a refused one were
  abbrev pub AddsRangesUntil : Refused ℕ ℕ → Type 0
  AddsRangesUntil refused = GoesThrough IsUnionWith steps old source (Some (refused.key, refused.value)) new rest

  -- the numbers of all ranges were removed
  abbrev pub RemovesRanges : Type 0
  RemovesRanges = GoesThrough IsDifferenceWith steps old source None new rest

  -- those of the ranges before a refused one were
  abbrev pub RemovesRangesUntil : Refused ℕ ℕ → Type 0
  RemovesRangesUntil refused = GoesThrough IsDifferenceWith steps old source (Some (refused.key, refused.value)) new rest

-- the last call of a series was refused, with the ranges that there are now; nothing was refused before it
abbrev pub CountsLastRefusal : (old new : RangeState) → Cause → Type 0
CountsLastRefusal old new cause = CountsRefusal (record new { kept = old.kept }) new cause
