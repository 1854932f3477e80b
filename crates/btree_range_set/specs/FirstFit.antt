-- The first of some numbers from which so many in a row are free.
use Rattle.std.specs.Prelude.{◌≡◌, ℕ, ◌+◌, ◌≤◌, Bool, true, false}
use Rattle.btree_range_set.specs.Ranges.{is_within}

-- `has` tells which numbers are taken
module _ (has : ℕ → Bool) (start end size : ℕ) where
  -- the `size` numbers from `at` on are from `start` up to `end`, and free
  pub record IsFreeRun (at : ℕ) : Type 0 where
    pub from : start ≤ at
    pub to : at + size ≤ end
    pub free : (n : ℕ) → is_within (at, at + size) n ≡ true → has n ≡ false

  -- `at` is the least number from which `size` numbers in a row are free, from `start` up to `end`
  pub record IsFirstFit (at : ℕ) : Type 0 where
    pub run : IsFreeRun at
    pub least : (other : ℕ) → IsFreeRun other → at ≤ other

  -- from no number are so many free in a row
  abbrev pub FitsNowhere : Type 0
  FitsNowhere = (at : ℕ) → IsFreeRun at → ⊥
