-- The ranges at a place of the list, and before it.
use Rattle.std.specs.Prelude.{◌≡◌, ℕ, suc, ◌<◌, ◌≤◌, true, List, Option, Some, None, slice_get}
use Rattle.btree_range_set.specs.Ranges.{is_within}

module _ (ranges : List (ℕ × ℕ)) (place n : ℕ) where
  -- the range before a place, if there is one, ends below a number
  abbrev pub EndsBefore : Type 0
  EndsBefore = (q : ℕ) (x : ℕ × ℕ) → suc q ≡ place → slice_get ranges q ≡ Some x → x.1 < n

  -- the range at a place, if there is one, starts above a number
  abbrev pub StartsAfter : Type 0
  StartsAfter = (x : ℕ × ℕ) → slice_get ranges place ≡ Some x → n < x.0

  -- it starts at a number or above it
  abbrev pub StartsFrom : Type 0
  StartsFrom = (x : ℕ × ℕ) → slice_get ranges place ≡ Some x → n ≤ x.0

  -- there is a range at the place, and it starts at the number or below it
  pub record StartsBy : Type 0 where
    pub range : ℕ × ℕ
    pub listed : slice_get ranges place ≡ Some range
    pub low : range.0 ≤ n

-- a number is in this range of the list
pub record IsRangeAround (ranges : List (ℕ × ℕ)) (n : ℕ) (range : ℕ × ℕ) : Type 0 where
  pub index : ℕ
  pub listed : slice_get ranges index ≡ Some range
  pub inside : is_within range n ≡ true

-- the least number that a range may begin with after one that ends at `past`, or after none
abbrev pub low_after : (past : Option ℕ) → ℕ
low_after None = 0
low_after (Some past) = suc past
