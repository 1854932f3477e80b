-- What the private steps of a set of ranges require and leave, on a map from the start of each range to its end. An
-- address stands for its place in the list of ranges. `CanJoin`, `CanClear` and `CanCut` are what the three kinds of step
-- begin with, and `Joins` and `Clears` what they leave.
use Rattle.std.specs.Prelude.{◌≡◌, ℕ, suc, ◌≤◌, ◌<◌, length, Option, Some, IsSome, slice_get}
use Rattle.std.specs.List.{remove}
use Rattle.btree_item.specs.Address.{Address}
use Rattle.btree_item.specs.declared.refused.Cause.{Cause}
use Rattle.btree_laws.specs.TreeState.{TreeState, IsValidIn, pairs_of}
use Rattle.btree_find.specs.Navigation.{HasPlace, IsItemAddress, IsItemAt}
use Rattle.btree_range_set.specs.Places.{EndsBefore, StartsAfter, StartsBy, StartsFrom}
use Rattle.btree_range_set.specs.Ranges.{AreRuns, IsDifference, IsUnion}
use Rattle.btree_range_set.specs.State.{GrowsWithinLimit, IsRefused, ranges_of}

module _ (s : TreeState ℕ ℕ) (a : Address) (n : ℕ) where
  -- there is a range after the one at an address, and it starts at a number or below it
  abbrev pub NextStartsBy : Type 0
  NextStartsBy = (place : ℕ) → HasPlace s a place → StartsBy (pairs_of s) (suc place) n

  -- if there is a range after it, it starts above the number
  abbrev pub NextStartsAfter : Type 0
  NextStartsAfter = (place : ℕ) → HasPlace s a place → StartsAfter (pairs_of s) (suc place) n

module _ (old new : TreeState ℕ ℕ) where
  -- the range at a place was removed, and this is the address of the one after it
  pub record TakesRange (place : ℕ) (next : Option Address) : Type 0 where
    pub pairs : pairs_of new ≡ remove (pairs_of old) place
    pub next_one : IsItemAt new place next
    pub uncounted : new.kept ≡ old.kept

  -- what a granted step leaves beside the numbers
  pub record LeavesRuns : Type 0 where
    pub runs : AreRuns (pairs_of new)
    pub uncounted : new.kept ≡ old.kept
    pub bounded : GrowsWithinLimit (ranges_of old) (ranges_of new)

  -- the numbers from `start` up to `end` were added
  pub record Joins (start end : ℕ) : Type 0 where
    pub united : IsUnion (pairs_of old) start end (pairs_of new)
    pub leaves : LeavesRuns

  -- the numbers from `start` up to `end` were taken out
  pub record Clears (start end : ℕ) : Type 0 where
    pub without : IsDifference (pairs_of old) start end (pairs_of new)
    pub leaves : LeavesRuns

  -- numbers were refused
  abbrev pub IsRefusedIn : Cause → Type 0
  IsRefusedIn cause = IsRefused (ranges_of old) (ranges_of new) cause

-- the range at the address meets or touches the numbers from `start` up to `end` and does not start before them, and the
-- range before it neither meets nor touches them
pub record CanJoin (s : TreeState ℕ ℕ) (a : Address) (start end : ℕ) : Type 0 where
  pub place : ℕ
  pub range : ℕ × ℕ
  pub item : IsItemAddress s place a
  pub listed : slice_get (pairs_of s) place ≡ Some range
  pub starts : start ≤ range.0
  pub meets : range.0 ≤ end
  pub ends : EndsBefore (pairs_of s) place start
  pub runs : AreRuns (pairs_of s)

-- the range at the address, if there is one, is the first that starts at `start` or later; those before it end there or
-- before
pub record CanClear (s : TreeState ℕ ℕ) (at : Option Address) (start : ℕ) : Type 0 where
  pub place : ℕ
  pub within : place ≤ length (pairs_of s)
  pub item : IsItemAt s place at
  pub ends : EndsBefore (pairs_of s) place (suc start)
  pub starts : StartsFrom (pairs_of s) place start
  pub runs : AreRuns (pairs_of s)

-- the range before the gap has numbers on both sides of those from `start` up to `end`, which are some
pub record CanCut (s : TreeState ℕ ℕ) (gap : Address) (start end last : ℕ) : Type 0 where
  pub some : start < end
  pub before : ℕ
  pub first : ℕ
  pub valid : IsValidIn s gap
  pub back : IsSome gap.offset
  pub has : HasPlace s gap (suc before)
  pub listed : slice_get (pairs_of s) before ≡ Some (first, last)
  pub left : first < start
  pub right : end < last
  pub runs : AreRuns (pairs_of s)
