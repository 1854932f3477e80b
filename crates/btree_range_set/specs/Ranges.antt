-- A set of numbers as a list of ranges. A range is a pair: the numbers from its start up to its end, which is not one of
-- them. Read `has_number` (which numbers are in the set) and `AreRuns` (how the ranges stand in the list) first: together
-- they say which ranges there are. `IsUnion` and `IsDifference` are what `insert` and `remove` leave, and `JoinsNone` and
-- `CutsOne` are the only cases in which they may be refused. A set is the numbers, so `IsMaximalRun` says what a range is
-- in it.
use Rattle.std.specs.Prelude.{◌≡◌, ℕ, suc, ◌<◌, ◌≤◌, Bool, true, false, not, ◌&&◌, ◌||◌, max, min, nat_le, nat_lt, List, [], ◌∷◌, ◌⊎◌, Some, slice_get}
use Rattle.std.specs.List.{AllByRecursion, filter, list_any}

-- whether a number is in a range
abbrev pub is_within : ℕ × ℕ → ℕ → Bool
is_within range n = nat_le range.0 n && nat_lt n range.1

-- whether a number is in one of the ranges
abbrev pub has_number : List (ℕ × ℕ) → ℕ → Bool
has_number ranges n = list_any (λ range. is_within range n) ranges

-- the ranges ascend from `low` on, none is empty, and no two touch
abbrev pub AreRunsFrom : (low : ℕ) → List (ℕ × ℕ) → Type 0
AreRunsFrom low [] = Unit {0}
AreRunsFrom low (range ∷ ranges) = (low ≤ range.0) × (range.0 < range.1) × AreRunsFrom (suc range.1) ranges

-- the ranges ascend, none is empty, and no two touch
abbrev pub AreRuns : List (ℕ × ℕ) → Type 0
AreRuns ranges = AreRunsFrom 0 ranges

-- the new set is the union of the old one with the numbers from `start` up to `end`
abbrev pub IsUnion : (old : List (ℕ × ℕ)) → (start end : ℕ) → (new : List (ℕ × ℕ)) → Type 0
IsUnion old start end new = (n : ℕ) → has_number new n ≡ (has_number old n || is_within (start, end) n)

-- the new set is the old one without the numbers from `start` up to `end`
abbrev pub IsDifference : (old : List (ℕ × ℕ)) → (start end : ℕ) → (new : List (ℕ × ℕ)) → Type 0
IsDifference old start end new = (n : ℕ) → has_number new n ≡ (has_number old n && not (is_within (start, end) n))

-- no range meets or touches the numbers from `start` up to `end`, which are some
pub record JoinsNone (ranges : List (ℕ × ℕ)) (start end : ℕ) : Type 0 where
  pub some : start < end
  pub apart : AllByRecursion (λ range. (range.1 < start) ⊎ (end < range.0)) ranges

-- the numbers from `start` up to `end`, which are some, are inside one range, and neither at its start nor at its end
pub record CutsOne (ranges : List (ℕ × ℕ)) (start end : ℕ) : Type 0 where
  pub some : start < end
  pub index : ℕ
  pub range : ℕ × ℕ
  pub here : slice_get ranges index ≡ Some range
  pub left : range.0 < start
  pub right : end < range.1

-- a range is a maximal run of the set: its numbers are in the set, and those next to it are not
pub record IsMaximalRun (ranges : List (ℕ × ℕ)) (range : ℕ × ℕ) : Type 0 where
  pub some : range.0 < range.1
  pub inside : (n : ℕ) → is_within range n ≡ true → has_number ranges n ≡ true
  pub after : has_number ranges range.1 ≡ false
  pub before : (n : ℕ) → suc n ≡ range.0 → has_number ranges n ≡ false

-- a range is a gap of the set: none of its numbers is in the set, and those next to it are, but for the one before 0
pub record IsGap (ranges : List (ℕ × ℕ)) (range : ℕ × ℕ) : Type 0 where
  pub some : range.0 < range.1
  pub none : (n : ℕ) → is_within range n ≡ true → has_number ranges n ≡ false
  pub after : has_number ranges range.1 ≡ true
  pub before : (n : ℕ) → suc n ≡ range.0 → has_number ranges n ≡ true

-- whether a range has one of the numbers from `start` up to `end`
abbrev pub meets : (start end : ℕ) → ℕ × ℕ → Bool
meets start end range = nat_lt (max start range.0) (min end range.1)

-- the ranges that have one of these numbers
abbrev pub ranges_meeting : (start end : ℕ) → List (ℕ × ℕ) → List (ℕ × ℕ)
ranges_meeting start end ranges = filter (meets start end) ranges

-- one of the numbers from `start` up to `end` is in the set
pub record Overlaps (ranges : List (ℕ × ℕ)) (start end : ℕ) : Type 0 where
  pub number : ℕ
  pub inside : is_within (start, end) number ≡ true
  pub has : has_number ranges number ≡ true

-- none of them is
abbrev pub OverlapsNone : (ranges : List (ℕ × ℕ)) → (start end : ℕ) → Type 0
OverlapsNone ranges start end = (n : ℕ) → is_within (start, end) n ≡ true → has_number ranges n ≡ false
