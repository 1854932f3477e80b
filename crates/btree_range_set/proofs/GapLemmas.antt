-- The gaps between ranges: they are runs, of the numbers that are in no range.
use Rattle.btree_range_set.proofs.Common.{◌≡◌, ◌≤◌, ◌<◌, ◌∙◌, ℕ, suc, max, Bool, true, false, not, ◌&&◌, ◌||◌, List, [], ◌∷◌, refl, sym, ap, arith, ◌⊎◌, inl, inr, cases_lt, le-ltb, lt-ltb, within-from, AreRuns, AreRunsFrom, has_number, is_within, ranges_meeting, within-below, within-above, none-below, runs-weaken}
use Rattle.std.proofs.Common.{min, cond}
use Rattle.std.proofs.lemmas.Bool.{ltb-false, ltb-true}
use Rattle.std.specs.List.{AllByRecursion, filter}
use Rattle.btree_range_set.specs.CallerLaws.{has-meeting}
use Rattle.btree_range_set.specs.Gaps.{AreGaps, gaps_from, is_some_range}
use Rattle.btree_range_set.specs.Ranges.{meets}

-- ---- the ranges that have one of the numbers
pub runs-filtered : (test : ℕ × ℕ → Bool) (low : ℕ) (xs : List (ℕ × ℕ)) → AreRunsFrom low xs → AreRunsFrom low (filter test xs)
runs-filtered test low [] runs = tt
runs-filtered test low (x ∷ xs) runs = by (test x) (runs-filtered test (suc x.1) xs runs.2) where
  by : (b : Bool) → AreRunsFrom (suc x.1) (filter test xs) → AreRunsFrom low (cond b (x ∷ filter test xs) (filter test xs))
  by true rest = (runs.0, runs.1, rest)
  by false rest = runs-weaken (suc x.1) low (filter test xs) (omega (arith, runs.0, runs.1)) rest

-- the ranges start below `e` and end above `s`
abbrev IsAhead : (s e : ℕ) → List (ℕ × ℕ) → Type 0
IsAhead s e xs = AllByRecursion (λ x. (x.0 < e) × (s < x.1)) xs

ahead : (s e : ℕ) (xs : List (ℕ × ℕ)) → IsAhead s e (ranges_meeting s e xs)
ahead s e [] = tt
ahead s e (x ∷ xs) = by (meets s e x) refl (ahead s e xs) where
  by : (b : Bool) → meets s e x ≡ b → IsAhead s e (ranges_meeting s e xs) → IsAhead s e (cond b (x ∷ ranges_meeting s e xs) (ranges_meeting s e xs))
  by true is rest = let lt = ltb-true (max s x.0) (min e x.1) is in ((omega (arith, lt), omega (arith, lt)), rest)
  by false is rest = rest

-- ---- from one range to the next
-- to leave out an empty range changes neither the numbers nor the order
has-kept : (y : ℕ × ℕ) (ys : List (ℕ × ℕ)) (n : ℕ) → has_number (cond (is_some_range y) (y ∷ ys) ys) n ≡ (is_within y n || has_number ys n)
has-kept y ys n = by (is_some_range y) refl where
  outside : is_some_range y ≡ false → (n < y.0) ⊎ (y.0 ≤ n) → is_within y n ≡ false
  outside none (inl lt) = within-below y n lt
  outside none (inr le) = let end = ltb-false y.0 y.1 none in within-above y n (omega (arith, le, end))

  by : (b : Bool) → is_some_range y ≡ b → has_number (cond b (y ∷ ys) ys) n ≡ (is_within y n || has_number ys n)
  by true is = refl
  by false is = ap (λ b. b || has_number ys n) (sym (outside is (cases_lt n y.0)))

runs-kept : (s m low : ℕ) (ys : List (ℕ × ℕ)) → AreRunsFrom low ys → s ≤ low → m < low → AreRunsFrom s (cond (is_some_range (s, m)) ((s, m) ∷ ys) ys)
runs-kept s m low ys runs le lt = by (is_some_range (s, m)) refl where
  by : (b : Bool) → is_some_range (s, m) ≡ b → AreRunsFrom s (cond b ((s, m) ∷ ys) ys)
  by true is = (omega arith, ltb-true s m is, runs-weaken low (suc m) ys (omega (arith, lt)) runs)
  by false is = runs-weaken low s ys le runs

-- a number before, in or after the first range
past-first : (s e n : ℕ) (r : ℕ × ℕ) (rs : List (ℕ × ℕ)) → r.0 < r.1 → AreRunsFrom (suc r.1) rs → r.0 < e → s < r.1
    → (is_within (s, r.0) n || (is_within (r.1, e) n && not (has_number rs n))) ≡ (is_within (s, e) n && not (is_within r n || has_number rs n))
past-first s e n r rs some runs starts ends = elim (cases_lt n s) [
  | inl below ↦ rw (within-below (s, r.0) n below, within-below (r.1, e) n (omega (arith, below, ends)), within-below (s, e) n below) refl
  | inr from ↦ elim (cases_lt n r.0) [
    | inl before ↦
        rw (
          none-below (suc r.1) rs runs n (omega (arith, before, some)),
          within-below r n before,
          within-below (r.1, e) n (omega (arith, before, some)),
          within-from (s, r.0) n from before,
          within-from (s, e) n from (omega (arith, before, starts)),
        )
        refl
    | inr start ↦ elim (cases_lt n r.1) [
      | inl inside ↦ rw (within-above (s, r.0) n start, within-below (r.1, e) n inside, within-from r n start inside) (sym (and-false (is_within (s, e) n)))
      | inr after ↦ elim (cases_lt n e) [
        | inl up ↦ rw (within-above (s, r.0) n start, within-from (r.1, e) n after up, within-from (s, e) n from up, within-above r n after) refl
        | inr past ↦ rw (within-above (s, r.0) n start, within-above (r.1, e) n past, within-above (s, e) n past) refl
      ]
    ]
  ]
]
  where
    and-false : (b : Bool) → (b && false) ≡ false
    and-false true = refl
    and-false false = refl

later : (r : ℕ × ℕ) (e s low : ℕ) (rs : List (ℕ × ℕ)) → AreRunsFrom low rs → r.1 < low → IsAhead s e rs → IsAhead r.1 e rs
later r e s low [] runs lt is = tt
later r e s low (x ∷ rs) runs lt is = ((is.0.0, omega (arith, runs.0, runs.1, lt)), later r e s (suc x.1) rs runs.2 (omega (arith, runs.0, runs.1, lt)) is.1)

gaps-missing : (s e low : ℕ) (rs : List (ℕ × ℕ)) → AreRunsFrom low rs → IsAhead s e rs → (n : ℕ)
    → has_number (gaps_from s e rs) n ≡ (is_within (s, e) n && not (has_number rs n))
gaps-missing s e low [] runs is n = has-kept (s, e) [] n ∙ or-and (is_within (s, e) n) where
  or-and : (b : Bool) → (b || false) ≡ (b && true)
  or-and true = refl
  or-and false = refl
gaps-missing s e low (r ∷ rs) runs is n =
    has-kept (s, r.0) (gaps_from r.1 e rs) n
    ∙ ap (λ b. is_within (s, r.0) n || b) (gaps-missing r.1 e (suc r.1) rs runs.2 (later r e s (suc r.1) rs runs.2 (omega arith) is.1) n)
    ∙ past-first s e n r rs runs.1 runs.2 is.0.0 is.0.1

gaps-runs : (s e low : ℕ) (rs : List (ℕ × ℕ)) → AreRunsFrom low rs → IsAhead s e rs → AreRunsFrom s (gaps_from s e rs)
gaps-runs s e low [] runs is = runs-kept s e (suc (max s e)) [] tt (omega arith) (omega arith)
gaps-runs s e low (r ∷ rs) runs is =
    runs-kept s r.0 r.1 (gaps_from r.1 e rs) (gaps-runs r.1 e (suc r.1) rs runs.2 (later r e s (suc r.1) rs runs.2 (omega arith) is.1)) (omega (arith, is.0.1)) runs.1

-- ---- the gaps of a set
and-same : (b c d : Bool) → (b ≡ true → c ≡ d) → (b && not c) ≡ (b && not d)
and-same true c d same = ap not (same refl)
and-same false c d same = refl

pub gaps-are : (xs : List (ℕ × ℕ)) (s e : ℕ) → AreRuns xs → AreGaps xs s e (gaps_from s e (ranges_meeting s e xs))
gaps-are xs s e runs =
    let rs = ranges_meeting s e xs in
    let rs_runs = runs-filtered (meets s e) 0 xs runs in
    record {
      runs = runs-weaken s 0 (gaps_from s e rs) (omega arith) (gaps-runs s e 0 rs rs_runs (ahead s e xs));
      missing = λ n. gaps-missing s e 0 rs rs_runs (ahead s e xs) n
          ∙ and-same (is_within (s, e) n) (has_number rs n) (has_number xs n) (has-meeting s e n xs);
    }

-- ---- the steps of an iterator over the gaps
no-gap : (s e : ℕ) → e ≤ s → gaps_from s e [] ≡ []
no-gap s e le = ap (λ b. cond b ((s, e) ∷ []) []) (le-ltb s e le)

module _ (xs rs : List (ℕ × ℕ)) (r : ℕ × ℕ) (s e : ℕ) (is : xs ≡ r ∷ rs) where
  first-gap : (b : Bool) → is_some_range (s, r.0) ≡ b → gaps_from s e xs ≡ cond b ((s, r.0) ∷ gaps_from r.1 e rs) (gaps_from r.1 e rs)
  first-gap b test = ap (λ l. gaps_from s e l) is ∙ ap (λ t. cond t ((s, r.0) ∷ gaps_from r.1 e rs) (gaps_from r.1 e rs)) test

  -- there is a gap before the first range
  pub gap-given : s < r.0 → gaps_from s e xs ≡ (s, r.0) ∷ gaps_from r.1 e rs
  gap-given lt = first-gap true (lt-ltb s r.0 lt)

  -- there is none
  pub gap-skipped : r.0 ≤ s → gaps_from s e xs ≡ gaps_from r.1 e rs
  gap-skipped le = first-gap false (le-ltb s r.0 le)

-- after the last range, before and after that gap
module _ (xs ys : List (ℕ × ℕ)) (s e : ℕ) (is : xs ≡ []) (none : ys ≡ []) where
  pub at-end : gaps_from e e ys ≡ []
  at-end = ap (λ l. gaps_from e e l) none ∙ no-gap e e (omega arith)

  pub gap-last : s < e → gaps_from s e xs ≡ (s, e) ∷ gaps_from e e ys
  gap-last lt = ap (λ l. gaps_from s e l) is ∙ ap (λ b. cond b ((s, e) ∷ []) []) (lt-ltb s e lt) ∙ ap (λ l. (s, e) ∷ l) (sym at-end)

  pub gap-none : e ≤ s → gaps_from s e xs ≡ []
  gap-none le = ap (λ l. gaps_from s e l) is ∙ no-gap s e le
