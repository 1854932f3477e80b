-- The range around a number, and the first and the last one.
use Rattle.btree_range_map.proofs.Common.{◌≡◌, ◌≤◌, ◌<◌, ◌∙◌, ℕ, suc, Bool, true, false, List, [], ◌∷◌, length, slice_get, Option, None, Some, refl, sym, ap, subst, arith, ◌⊎◌, inl, inr, IsSome, cases_Bool, cases_lt, same_Some, Span, between-high, IsRangeAround, AreRuns, AscendFrom, is_within, value_at}
use Rattle.std.proofs.Common.{◌-◌, IfSome}
use Rattle.std.specs.Prelude.{is_some, option_copied, option_map}
use Rattle.std.specs.Borrow.{Bor}
use Rattle.btree_map.specs.Lists.{last_of}
use Rattle.btree_range_map.specs.Ranges.{IsMaximalRun, range_now}
use Rattle.btree_range_map.proofs.RangeLaws.{maximal, starts-here}
use Rattle.btree_range_map.proofs.RunLemmas.{none-below}
use Rattle.btree_range_map.proofs.StepLemmas.{passed}

module _ {V : Type 0} where
  -- the range around a number is a maximal run
  pub around-maximal : (xs : List (ℕ × Span V)) (n : ℕ) (o : Option (ℕ × Bor (Span V))) → AreRuns xs → IfSome o (λ x. IsRangeAround xs n (range_now x))
      → IfSome o (λ x. IsMaximalRun xs (range_now x))
  around-maximal xs n None runs around = tt
  around-maximal xs n (Some x) runs around = maximal xs around.index (range_now x) runs around.listed

  -- no number below the start of the first range has a value
  pub first-lowest : (xs : List (ℕ × Span V)) (o : Option (ℕ × Bor (Span V))) → AreRuns xs → option_map range_now o ≡ slice_get xs 0
      → IfSome o (λ x. (n : ℕ) → IsSome (value_at xs n) → x.0 ≤ n)
  first-lowest xs None runs is = tt
  first-lowest [] (Some x) runs is = absurd (cc)
  first-lowest (y ∷ ys) (Some x) runs is = λ n has. elim (cases_lt n x.0) [
    | inr from ↦ from
    | inl below ↦
        let start = ap (λ (z : ℕ × Span V). z.0) (same_Some _ _ is) in
        let none = none-below y.0 (y ∷ ys) (omega arith, runs.ascend.1, runs.ascend.2) n (omega (arith, below, start)) in
        let no : false ≡ true = subst (λ (o : Option V). IsSome o) none has in
        absurd (cc)
  ]

  below-last : (low : ℕ) (xs : List (ℕ × Span V)) (x : ℕ × Span V) → AscendFrom low xs → Some x ≡ last_of xs → (n : ℕ) → IsSome (value_at xs n) → n < x.1.end
  below-last low [] x runs is n has = absurd (cc)
  below-last low (y ∷ []) x runs is n has = by (cases_Bool (is_within y n)) where
    end : x.1.end ≡ y.1.end
    end =
        let first : length (y ∷ []) - 1 ≡ 0 = omega arith in
        let same : x ≡ y = same_Some _ _ (is ∙ ap (slice_get (y ∷ [])) first) in
        ap (λ (z : ℕ × Span V). z.1.end) same

    by : (is_within y n ≡ true) ⊎ (is_within y n ≡ false) → n < x.1.end
    by (inl inside) = let high = between-high y.0 y.1.end n inside in omega (arith, high, end)
    by (inr out) = let no : false ≡ true = subst (λ (o : Option V). IsSome o) (sym (passed (is_within y n) (Some y.1.value) None out)) has in absurd (cc)
  below-last low (y ∷ z ∷ xs) x runs is n has = by (cases_Bool (is_within y n)) (below-last y.1.end (z ∷ xs) x runs.2 later) where
    later : Some x ≡ last_of (z ∷ xs)
    later = let one : length (y ∷ z ∷ xs) - 1 ≡ suc (length (z ∷ xs) - 1) = omega arith in is ∙ ap (slice_get (y ∷ z ∷ xs)) one

    by : (is_within y n ≡ true) ⊎ (is_within y n ≡ false) → ((m : ℕ) → IsSome (value_at (z ∷ xs) m) → m < x.1.end) → n < x.1.end
    by (inl inside) rest =
        let high = between-high y.0 y.1.end n inside in
        let next = rest z.0 (subst (λ (o : Option V). IsSome o) (sym (starts-here y.1.end z xs runs.2)) refl) in
        omega (arith, high, next, runs.2.0)
    by (inr out) rest = rest n (subst (λ (o : Option V). IsSome o) (sym (passed (is_within y n) (Some y.1.value) (value_at (z ∷ xs) n) out)) has)

  -- all numbers that have a value are below the end of the last range
  pub last-highest : (xs : List (ℕ × Span V)) (o : Option (ℕ × Bor (Span V))) → AreRuns xs → option_map range_now o ≡ last_of xs
      → IfSome o (λ x. (n : ℕ) → IsSome (value_at xs n) → n < x.1.now.end)
  last-highest xs None runs is = tt
  last-highest xs (Some x) runs is = below-last 0 xs (range_now x) runs.ascend is

-- whether a value was lent tells whether there is one
pub some-copied : {A : Type 0} (r : Option (Bor A)) (o : Option A) (is : Bool) → is ≡ is_some r → option_copied r ≡ o → is ≡ is_some o
some-copied None o is told same = told ∙ ap (λ p. is_some p) same
some-copied (Some x) o is told same = told ∙ ap (λ p. is_some p) same

pub ruleset queries = (around-maximal, first-lowest, last-highest)
