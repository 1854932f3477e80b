-- The range around a number, and the first and the last one.
use Rattle.btree_range_set.proofs.Common.{◌≡◌, ◌≤◌, ◌<◌, ◌∙◌, ℕ, suc, true, false, List, [], ◌∷◌, length, slice_get, Option, None, Some, refl, ap, arith, ◌⊎◌, inl, inr, cases_Bool, cases_lt, same_Some, within-high, IsRangeAround, AreRuns, AreRunsFrom, IsMaximalRun, has_number, is_within, none-below}
use Rattle.std.proofs.Common.{◌-◌, IfSome}
use Rattle.btree_map.specs.Lists.{last_of}
use Rattle.btree_range_set.proofs.RangeLaws.{maximal, starts-here}
use Rattle.btree_range_set.proofs.RunLemmas.{range-there}

-- the range around a number is a maximal run
pub around-maximal : (xs : List (ℕ × ℕ)) (n : ℕ) (o : Option (ℕ × ℕ)) → AreRuns xs → IfSome o (IsRangeAround xs n) → IfSome o (IsMaximalRun xs)
around-maximal xs n None runs around = tt
around-maximal xs n (Some x) runs around = maximal xs around.index x runs around.listed

-- no number is below the start of the first range
pub first-lowest : (xs : List (ℕ × ℕ)) (o : Option (ℕ × ℕ)) → AreRuns xs → o ≡ slice_get xs 0
    → IfSome o (λ x. (n : ℕ) → has_number xs n ≡ true → x.0 ≤ n)
first-lowest xs None runs is = tt
first-lowest [] (Some x) runs is = absurd (cc)
first-lowest (y ∷ ys) (Some x) runs is = λ n has. elim (cases_lt n x.0) [
  | inr from ↦ from
  | inl below ↦
      let same : x ≡ y = same_Some _ _ is in
      let start = ap (λ (z : ℕ × ℕ). z.0) same in
      let none = none-below y.0 (y ∷ ys) (omega arith, runs.1, runs.2) n (omega (arith, below, start)) in
      absurd (cc)
]

below-last : (low : ℕ) (xs : List (ℕ × ℕ)) (x : ℕ × ℕ) → AreRunsFrom low xs → Some x ≡ last_of xs → (n : ℕ) → has_number xs n ≡ true → n < x.1
below-last low [] x runs is n has = absurd (cc)
below-last low (y ∷ []) x runs is n has = by (cases_Bool (is_within y n)) where
  end : x.1 ≡ y.1
  end =
      let first : length (y ∷ []) - 1 ≡ 0 = omega arith in
      let same : x ≡ y = same_Some _ _ (is ∙ ap (slice_get (y ∷ [])) first) in
      ap (λ (z : ℕ × ℕ). z.1) same

  by : (is_within y n ≡ true) ⊎ (is_within y n ≡ false) → n < x.1
  by (inl inside) = let high = within-high y n inside in omega (arith, high, end)
  by (inr out) = let no : false ≡ true = rw out at has in absurd (cc)
below-last low (y ∷ z ∷ xs) x runs is n has = by (cases_Bool (is_within y n)) (below-last (suc y.1) (z ∷ xs) x runs.2 later) where
  later : Some x ≡ last_of (z ∷ xs)
  later = let one : length (y ∷ z ∷ xs) - 1 ≡ suc (length (z ∷ xs) - 1) = omega arith in is ∙ ap (slice_get (y ∷ z ∷ xs)) one

  by : (is_within y n ≡ true) ⊎ (is_within y n ≡ false) → ((m : ℕ) → has_number (z ∷ xs) m ≡ true → m < x.1) → n < x.1
  by (inl inside) rest =
      let high = within-high y n inside in
      let next = rest z.0 (starts-here (suc y.1) z xs runs.2) in
      omega (arith, high, next, runs.2.0)
  by (inr out) rest = rest n (rw out at has)

-- all numbers are below the end of the last range
pub last-highest : (xs : List (ℕ × ℕ)) (o : Option (ℕ × ℕ)) → AreRuns xs → o ≡ last_of xs → IfSome o (λ x. (n : ℕ) → has_number xs n ≡ true → n < x.1)
last-highest xs None runs is = tt
last-highest xs (Some x) runs is = below-last 0 xs x runs is

-- without a last range there is none
pub none-last : (xs : List (ℕ × ℕ)) → None ≡ last_of xs → xs ≡ []
none-last [] is = refl
none-last (x ∷ xs) is =
    let there = range-there (x ∷ xs) (length (x ∷ xs) - 1) (omega arith) in
    let no : None ≡ Some there.0 = is ∙ there.1 in
    absurd (cc)

pub ruleset queries = (around-maximal, first-lowest, last-highest)
