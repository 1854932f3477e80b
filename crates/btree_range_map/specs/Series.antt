-- What a series of insertions leaves of a map, by ranges that an iterator gives. `GoesThrough` says how far the iterator was
-- stepped.
use Rattle.std.specs.Prelude.{◌≡◌, ℕ, cond, List, [], ◌∷◌, Option, None, Some}
use Rattle.std.specs.Iterator.{YieldsThen}
use Rattle.btree_range_map.specs.declared.refused.RangeRefused.{RangeRefused}
use Rattle.btree_range_map.specs.declared.span.Span.{Span}
use Rattle.btree_range_map.specs.Ranges.{is_within, value_at}
use Rattle.btree_range_map.specs.State.{RangeState}

module _ {V : Type 0} where
  -- the values of the numbers after those of each range were given its value, in order
  abbrev pub assigned_all : List (ℕ × Span V) → (ℕ → Option V) → ℕ → Option V
  assigned_all [] map = map
  assigned_all (range ∷ ranges) map = assigned_all ranges (λ n. cond (is_within range n) (Some range.1.value) (map n))

  -- these are the values after the ranges that were given
  abbrev pub AreAssigned : (old given new : List (ℕ × Span V)) → Type 0
  AreAssigned old given new = (n : ℕ) → value_at new n ≡ assigned_all given (value_at old) n

  -- an iterator gave ranges, whose numbers were given their values, and then the outcome: `None`, or a range that was refused. It
  -- still has what comes after
  pub record GoesThrough {S : Type 0} (steps : S → Option (ℕ × Span V) → S → Type 0)
      (old : RangeState V) (source : S) (outcome : Option (ℕ × Span V)) (new : RangeState V) (rest : S) : Type 0 where
    pub given : List (ℕ × Span V)
    pub yields : YieldsThen steps source given outcome rest
    pub assigned : AreAssigned old.ranges given new.ranges

module _ {V S : Type 0} (steps : S → Option (ℕ × Span V) → S → Type 0) (old : RangeState V) (source : S) (new : RangeState V) (rest : S) where
  -- all ranges were inserted
  abbrev pub InsertsRanges : Type 0
  InsertsRanges = GoesThrough steps old source None new rest

  -- those before a refused one were
  abbrev pub InsertsRangesUntil : RangeRefused (Span V) → Type 0
  InsertsRangesUntil refused = GoesThrough steps old source (Some (refused.key, refused.value)) new rest
