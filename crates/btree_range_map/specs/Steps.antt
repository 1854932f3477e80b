-- What the private steps of a map of ranges require and leave, on a tree from the start of each range to its span. An
-- address stands for its place in the list of ranges. `CanClear` and `CanCut` are what the two kinds of step of a removal
-- begin with, and `Clears` is what they leave; `CanSplit`, `CanAbsorb`, `CanPut` and `CanPutOver` are what those of an
-- insertion begin with, and `Assigns` is what they leave.
use Rattle.std.specs.Prelude.{◌≡◌, ℕ, suc, ◌≤◌, ◌<◌, length, Option, Some, IsSome, slice_get}
use Rattle.std.specs.List.{remove}
use Rattle.std.specs.Ordering.{nat_cmp}
use Rattle.btree_item.specs.Address.{Address}
use Rattle.btree_laws.specs.TreeState.{TreeState, IsValidIn, pairs_of}
use Rattle.btree_find.specs.Navigation.{HasPlace, IsItemAddress, IsItemAt}
use Rattle.btree_ext.specs.Exchange.{IsValueExchanged}
use Rattle.btree_range_map.specs.declared.assign.Next.{Next}
use Rattle.btree_range_map.specs.declared.assign.Next.TheVariants.{Absorbed, Overlapped, Apart}
use Rattle.btree_range_map.specs.declared.refused.RangeCause.{RangeCause}
use Rattle.btree_range_map.specs.declared.span.Span.{Span}
use Rattle.btree_range_map.specs.Places.{DiffersBefore, EndsBy, IsApart, StartsFrom}
use Rattle.btree_range_map.specs.Ranges.{AreRuns, IsAssigned, IsCleared}
use Rattle.btree_range_map.specs.State.{GrowsWithinLimit, IsInsertRefused, IsRefused, IsRemoveRefused, ranges_of}

module _ {V : Type 0} (old new : TreeState ℕ (Span V)) where
  -- the range at a place was removed, and this is the address of the one after it
  pub record TakesRange (place : ℕ) (next : Option Address) : Type 0 where
    pub pairs : pairs_of new ≡ remove (pairs_of old) place
    pub next_one : IsItemAt new place next
    pub uncounted : new.kept ≡ old.kept

  -- the range at the address was given another end
  pub record SetsEnd (at : Address) (end : ℕ) : Type 0 where
    pub span : Span V
    pub exchanged : IsValueExchanged old new at nat_cmp span (record { end = end; value = span.value })

  -- the numbers from `start` up to `end` were taken out
  pub record Clears (start end : ℕ) : Type 0 where
    pub cleared : IsCleared (pairs_of old) start end (pairs_of new)
    pub runs : AreRuns (pairs_of new)
    pub uncounted : new.kept ≡ old.kept
    pub bounded : GrowsWithinLimit (ranges_of old) (ranges_of new)

  -- the numbers from `start` up to `span.end` were given the value `span.value`
  pub record Assigns (start : ℕ) (span : Span V) : Type 0 where
    pub assigned : IsAssigned (pairs_of old) start span.end span.value (pairs_of new)
    pub runs : AreRuns (pairs_of new)
    pub uncounted : new.kept ≡ old.kept
    pub bounded : GrowsWithinLimit (ranges_of old) (ranges_of new)

  -- a step that adds at most so many ranges was refused
  abbrev pub IsRefusedIn : (more : ℕ) → RangeCause → Type 0
  IsRefusedIn more cause = IsRefused (ranges_of old) (ranges_of new) more cause

  -- an insertion of the numbers from `start` up to `end` was refused
  abbrev pub IsInsertRefusedIn : (infallible : V → Type 0) → (start end : ℕ) → RangeCause → Type 0
  IsInsertRefusedIn infallible start end cause = IsInsertRefused infallible (ranges_of old) (ranges_of new) start end cause

  -- a removal of them was
  abbrev pub IsRemoveRefusedIn : (infallible : V → Type 0) → (start end : ℕ) → RangeCause → Type 0
  IsRemoveRefusedIn infallible start end cause = IsRemoveRefused infallible (ranges_of old) (ranges_of new) start end cause

  -- the address of the range before this address stays
  abbrev pub KeepsBefore : Address → Type 0
  KeepsBefore at = (place : ℕ) (before : Address)
      → HasPlace old at (suc place) → IsItemAddress old place before → IsItemAddress new place before

module _ {V : Type 0} where
  -- the range at the address, if there is one, is the first that starts at `start` or later; those before it end there or
  -- before
  pub record CanClear (s : TreeState ℕ (Span V)) (at : Option Address) (start : ℕ) : Type 0 where
    pub place : ℕ
    pub within : place ≤ length (pairs_of s)
    pub item : IsItemAt s place at
    pub ends : EndsBy (pairs_of s) place start
    pub starts : StartsFrom (pairs_of s) place start
    pub runs : AreRuns (pairs_of s)

  -- the range before the gap has numbers on both sides of those from `start` up to `end`, which are some
  pub record CanCut (s : TreeState ℕ (Span V)) (gap : Address) (start end last : ℕ) (value : V) : Type 0 where
    pub some : start < end
    pub before : ℕ
    pub first : ℕ
    pub valid : IsValidIn s gap
    pub back : IsSome gap.offset
    pub has : HasPlace s gap (suc before)
    pub listed : slice_get (pairs_of s) before ≡ Some (first, record { end = last; value = value })
    pub left : first < start
    pub right : end < last
    pub runs : AreRuns (pairs_of s)

  -- the range before the address, with the span `last`, has numbers on both sides of those from `start` up to `span.end`, and
  -- another value
  pub record CanSplit (s : TreeState ℕ (Span V)) (at : Address) (start : ℕ) (span last : Span V) : Type 0 where
    pub cut : CanCut s at start span.end last.end last.value
    pub differ : span.value ≡ last.value → ⊥

  -- ---- a range that is put before others
  -- the range at a place, with this address, is inside numbers that end at `span.end` with the value `span.value`, or has
  -- their value and meets or touches them: with it they end at `end`
  pub record Absorbs (s : TreeState ℕ (Span V)) (place : ℕ) (span : Span V) (at : Address) (end : ℕ) : Type 0 where
    pub range : ℕ × Span V
    pub item : IsItemAddress s place at
    pub listed : slice_get (pairs_of s) place ≡ Some range
    pub within : range.1.end ≤ end
    pub wider : span.end ≤ end
    pub joins : span.end < end → (range.1.value ≡ span.value) × (range.0 ≤ span.end) × (end ≡ range.1.end)

  -- it has another value, and goes on past their end
  pub record Overlaps (s : TreeState ℕ (Span V)) (place : ℕ) (span : Span V) (at : Address) (rest : Span V) : Type 0 where
    pub first : ℕ
    pub item : IsItemAddress s place at
    pub listed : slice_get (pairs_of s) place ≡ Some (first, rest)
    pub starts : first < span.end
    pub past : span.end < rest.end
    pub differ : rest.value ≡ span.value → ⊥

  -- what the range at a place does to such numbers
  abbrev pub Meets : (s : TreeState ℕ (Span V)) (place : ℕ) (span : Span V) → Next → Type 0
  Meets s place span (Absorbed at end) = Absorbs s place span at end
  Meets s place span (Overlapped at) = (rest : Span V) × Overlaps s place span at rest
  Meets s place span Apart = IsApart (pairs_of s) place span

  -- the range at the address is inside the numbers from `start` up to `span.end`; the one before it ends at `start` or before,
  -- and where it ends there, it has another value
  pub record CanAbsorb (s : TreeState ℕ (Span V)) (at : Address) (start : ℕ) (span : Span V) : Type 0 where
    pub place : ℕ
    pub range : ℕ × Span V
    pub item : IsItemAddress s place at
    pub listed : slice_get (pairs_of s) place ≡ Some range
    pub starts : start ≤ range.0
    pub within : range.1.end ≤ span.end
    pub ends : EndsBy (pairs_of s) place start
    pub differ : DiffersBefore (pairs_of s) place (start, span)
    pub runs : AreRuns (pairs_of s)

  -- an address whose place is the number of ranges that start below a number
  pub record IsPlaceFor (s : TreeState ℕ (Span V)) (n : ℕ) (at : Address) : Type 0 where
    pub valid : IsValidIn s at
    pub back : IsSome at.offset
    pub place : ℕ
    pub has : HasPlace s at place
    pub within : place ≤ length (pairs_of s)
    pub below : (q : ℕ) (x : ℕ × Span V) → suc q ≡ place → slice_get (pairs_of s) q ≡ Some x → x.0 < n
    pub starts : StartsFrom (pairs_of s) place n

  -- the range from `start` with `span`, which is not empty, may be put at the address: the one before ends at `start` or before,
  -- and where it ends there, it has another value
  pub record CanPut (s : TreeState ℕ (Span V)) (at : Address) (start : ℕ) (span : Span V) : Type 0 where
    pub some : start < span.end
    pub here : IsPlaceFor s start at
    pub ends : EndsBy (pairs_of s) here.place start
    pub differ : DiffersBefore (pairs_of s) here.place (start, span)
    pub runs : AreRuns (pairs_of s)

  -- the range before the address, which ends at `end`, has another value and ends inside the numbers from `start` up to
  -- `span.end`, or where they do
  pub record CanPutOver (s : TreeState ℕ (Span V)) (at before : Address) (start : ℕ) (span : Span V) (end : ℕ) : Type 0 where
    pub here : IsPlaceFor s start at
    pub place : ℕ
    pub next : suc place ≡ here.place
    pub first : ℕ
    pub last : Span V
    pub ends : last.end ≡ end
    pub item : IsItemAddress s place before
    pub listed : slice_get (pairs_of s) place ≡ Some (first, last)
    pub cuts : start < last.end
    pub within : last.end ≤ span.end
    pub differ : last.value ≡ span.value → ⊥
    pub runs : AreRuns (pairs_of s)
