-- What callers conclude: after any list of granted calls the set has the numbers that the calls make of those before
-- (`made-by-calls`); its ranges are exactly its maximal runs (`maximal`, `run-listed`); there is one list of runs for a set
-- of numbers (`same-runs`); and `==` is equality of the numbers (`equal-numbers`).
use Rattle.btree_range_set.proofs.Common.{◌≡◌, ◌≤◌, ◌<◌, ◌∙◌, ℕ, zero, suc, Bool, true, false, List, [], ◌∷◌, slice_get, Some, refl, sym, ap, subst, arith, ◌⊎◌, inl, inr, cases_Bool, cases_lt, same_Some, slice_get_within, within-from, within-high, within-low, AreRuns, AreRunsFrom, IsMaximalRun, has_number, is_within, within-above, none-below}
use Rattle.std.proofs.Common.{Decides}
use Rattle.std.proofs.lemmas.Bool.{cases_order, or_from, or_left}
use Rattle.btree_range_set.specs.CallerLaws.{ranges-equal}
use Rattle.btree_range_set.specs.Calls.{AreGranted, Call, IsGranted, after_call, after_calls}
use Rattle.btree_range_set.specs.Calls.Call.{Insert, Remove}
use Rattle.btree_range_set.specs.SameRanges.{ranges_eq}
use Rattle.btree_range_set.proofs.RunLemmas.{has-here, has-none, next-apart, run-at}

-- ---- lists of calls
one-call : (call : Call) (old new : List (ℕ × ℕ)) → IsGranted call old new → (n : ℕ) → has_number new n ≡ after_call call (has_number old) n
one-call (Insert start end) old new is n = is n
one-call (Remove start end) old new is n = is n

pub made-by-calls : (calls : List Call) (old new : List (ℕ × ℕ)) → AreGranted calls old new → (n : ℕ) → has_number new n ≡ after_calls calls (has_number old) n
made-by-calls [] old new is n = ap (λ ranges. has_number ranges n) is
made-by-calls (call ∷ calls) old new is n =
    let same : has_number is.0 ≡ after_call call (has_number old) = λ i m. one-call call old is.0 is.1 m i in
    made-by-calls calls is.0 new is.2 n ∙ ap (λ (set : ℕ → Bool). after_calls calls set n) same

-- ---- maximal runs
-- each range of runs is a maximal run
pub maximal : (xs : List (ℕ × ℕ)) (p : ℕ) (x : ℕ × ℕ) → AreRuns xs → slice_get xs p ≡ Some x → IsMaximalRun xs x
maximal xs p x runs at =
    let here = run-at 0 xs p x runs at in
    let within = slice_get_within xs p x at in
    record {
      some = here.1;
      inside = has-here xs p x at;
      after = has-none 0 xs (suc p) x.1 runs (omega (arith, within))
          (λ q y is there. let same : q ≡ p = omega (arith, is) in let r : y ≡ x = same_Some _ _ (sym there ∙ ap (slice_get xs) same ∙ at) in omega (arith, ap (λ z. z.1) r))
          (λ y there. next-apart 0 xs p x y runs at there);
      before = λ n is. has-none 0 xs p n runs (omega (arith, within))
          (λ q y next there. let apart = next-apart 0 xs q y x runs there (ap (slice_get xs) next ∙ at) in omega (arith, apart, is))
          (λ y there. let r : y ≡ x = same_Some _ _ (sym there ∙ at) in omega (arith, is, ap (λ z. z.0) r));
    }

-- a number of the set is in a range of the list
pub has-found : (ranges : List (ℕ × ℕ)) (n : ℕ) → has_number ranges n ≡ true → (p : ℕ) × (x : ℕ × ℕ) × (slice_get ranges p ≡ Some x) × (is_within x n ≡ true)
has-found [] n has = absurd (cc)
has-found (y ∷ ranges) n has = by (cases_Bool (is_within y n)) (λ out. has-found ranges n (later out)) where
  Place : Type 0
  Place = (p : ℕ) × (x : ℕ × ℕ) × (slice_get (y ∷ ranges) p ≡ Some x) × (is_within x n ≡ true)

  later : is_within y n ≡ false → has_number ranges n ≡ true
  later out = rw out at has

  by : (is_within y n ≡ true) ⊎ (is_within y n ≡ false) → (is_within y n ≡ false → (p : ℕ) × (x : ℕ × ℕ) × (slice_get ranges p ≡ Some x) × (is_within x n ≡ true))
      → (p : ℕ) × (x : ℕ × ℕ) × (slice_get (y ∷ ranges) p ≡ Some x) × (is_within x n ≡ true)
  by (inl inside) rest = (zero, y, refl, inside)
  by (inr out) rest = let r = rest out in (suc r.0, r.1, r.2, r.3)

-- each maximal run of the set is a range of the list; `maximal` says that each range is one
pub run-listed : (ranges : List (ℕ × ℕ)) (r : ℕ × ℕ) → AreRuns ranges → IsMaximalRun ranges r → (p : ℕ) × (slice_get ranges p ≡ Some r)
run-listed ranges r runs is =
    let at = has-found ranges r.0 (is.inside r.0 (within-from r r.0 (omega arith) is.some)) in
    let x : ℕ × ℕ = at.1 in
    let low = within-low x r.0 at.3 in
    let high = within-high x r.0 at.3 in
    let whole = maximal ranges at.0 x runs at.2 in
    let start : x.0 ≡ r.0 = same-start x r.0 refl low high whole in
    let end : x.1 ≡ r.1 = same-end x low high whole in
    (at.0, at.2 ∙ ap (λ (z : ℕ × ℕ). Some z) (same-pair x start end))
  where
    same-pair : (x : ℕ × ℕ) → x.0 ≡ r.0 → x.1 ≡ r.1 → x ≡ r
    same-pair x start end = λ i. (start i, end i)

    same-start : (x : ℕ × ℕ) (n : ℕ) → r.0 ≡ n → x.0 ≤ n → n < x.1 → IsMaximalRun ranges x → x.0 ≡ n
    same-start x zero is_n low high whole = omega (arith, low)
    same-start x (suc n) is_n low high whole = elim (cases_order x.0 (suc n)) [
      | inl same ↦ same
      | inr differs ↦ elim differs [
        | inl below ↦
            let yes = whole.inside n (within-from x n (omega (arith, below)) (omega (arith, high))) in
            let no = is.before n (sym is_n) in
            absurd (cc)
        | inr above ↦ absurd (omega (arith, above, low))
      ]
    ]

    same-end : (x : ℕ × ℕ) → x.0 ≤ r.0 → r.0 < x.1 → IsMaximalRun ranges x → x.1 ≡ r.1
    same-end x low high whole = elim (cases_order x.1 r.1) [
      | inl same ↦ same
      | inr differs ↦ elim differs [
        | inl below ↦
            let yes = is.inside x.1 (within-from r x.1 (omega (arith, high)) below) in
            let no = whole.after in
            absurd (cc)
        | inr above ↦
            let yes = whole.inside r.1 (within-from x r.1 (omega (arith, low, is.some)) above) in
            let no = is.after in
            absurd (cc)
      ]
    ]

-- ---- one list of runs for a set of numbers
pub starts-here : (low : ℕ) (x : ℕ × ℕ) (xs : List (ℕ × ℕ)) → AreRunsFrom low (x ∷ xs) → has_number (x ∷ xs) x.0 ≡ true
starts-here low x xs runs = or_left (is_within x x.0) (has_number xs x.0) (within-from x x.0 (omega arith) runs.1)

-- the end of the first range is in none
ends-here : (low : ℕ) (x : ℕ × ℕ) (xs : List (ℕ × ℕ)) → AreRunsFrom low (x ∷ xs) → has_number (x ∷ xs) x.1 ≡ false
ends-here low x xs runs =
    or_from (is_within x x.1) (has_number xs x.1) (within-above x x.1 (omega arith)) (none-below (suc x.1) xs runs.2 x.1 (omega arith))

first-start : (low : ℕ) (x y : ℕ × ℕ) (xs ys : List (ℕ × ℕ)) → AreRunsFrom low (x ∷ xs) → AreRunsFrom low (y ∷ ys)
    → ((n : ℕ) → has_number (x ∷ xs) n ≡ has_number (y ∷ ys) n) → y.0 ≤ x.0
first-start low x y xs ys runs others same = elim (cases_lt x.0 y.0) [
  | inr le ↦ le
  | inl below ↦
      let from : AreRunsFrom y.0 (y ∷ ys) = (omega arith, others.1, others.2) in
      let yes = starts-here low x xs runs in
      let no = none-below y.0 (y ∷ ys) from x.0 below in
      let is = same x.0 in
      absurd (cc)
]

first-end : (low : ℕ) (x y : ℕ × ℕ) (xs ys : List (ℕ × ℕ)) → AreRunsFrom low (x ∷ xs) → AreRunsFrom low (y ∷ ys) → y.0 ≤ x.0
    → ((n : ℕ) → has_number (x ∷ xs) n ≡ has_number (y ∷ ys) n) → y.1 ≤ x.1
first-end low x y xs ys runs others low_start same = elim (cases_lt x.1 y.1) [
  | inr le ↦ le
  | inl below ↦
      let yes = or_left (is_within y x.1) (has_number ys x.1) (within-from y x.1 (omega (arith, low_start, runs.1)) below) in
      let no = ends-here low x xs runs in
      let is = same x.1 in
      absurd (cc)
]

-- without an equal first range, the numbers of the others are the same
others-same : (low : ℕ) (x : ℕ × ℕ) (xs ys : List (ℕ × ℕ)) → AreRunsFrom low (x ∷ xs) → AreRunsFrom low (x ∷ ys)
    → ((n : ℕ) → has_number (x ∷ xs) n ≡ has_number (x ∷ ys) n) → (n : ℕ) → has_number xs n ≡ has_number ys n
others-same low x xs ys runs others same n = by (cases_Bool (is_within x n)) where
  by : (is_within x n ≡ true) ⊎ (is_within x n ≡ false) → has_number xs n ≡ has_number ys n
  by (inl inside) = let high = within-high x n inside in
      none-below (suc x.1) xs runs.2 n (omega (arith, high)) ∙ sym (none-below (suc x.1) ys others.2 n (omega (arith, high)))
  by (inr out) = let is = same n in rw out at is

pub same-runs-from : (low : ℕ) (xs ys : List (ℕ × ℕ)) → AreRunsFrom low xs → AreRunsFrom low ys → ((n : ℕ) → has_number xs n ≡ has_number ys n) → xs ≡ ys
same-runs-from low [] [] runs others same = refl
same-runs-from low [] (y ∷ ys) runs others same = let yes = starts-here low y ys others in let is = same y.0 in absurd (cc)
same-runs-from low (x ∷ xs) [] runs others same = let yes = starts-here low x xs runs in let is = same x.0 in absurd (cc)
same-runs-from low (x ∷ xs) (y ∷ ys) runs others same =
    let starts : x.0 ≡ y.0 = omega (arith, first-start low x y xs ys runs others same, first-start low y x ys xs others runs (λ n. sym (same n))) in
    let ends : x.1 ≡ y.1 =
    omega (arith, first-end low x y xs ys runs others (omega (arith, starts)) same, first-end low y x ys xs others runs (omega (arith, starts)) (λ n. sym (same n))) in
    let first : x ≡ y = λ i. (starts i, ends i) in
    let others_x : AreRunsFrom low (x ∷ ys) = subst (λ z. AreRunsFrom low (z ∷ ys)) (sym first) others in
    let rest = others-same low x xs ys runs others_x (λ n. same n ∙ ap (λ z. has_number (z ∷ ys) n) (sym first)) in
    ap (λ z. z ∷ xs) first ∙ ap (λ l. y ∷ l) (same-runs-from (suc x.1) xs ys runs.2 others_x.2 rest)

-- two lists of runs with the same numbers are the same list
pub same-runs : (xs ys : List (ℕ × ℕ)) → AreRuns xs → AreRuns ys → ((n : ℕ) → has_number xs n ≡ has_number ys n) → xs ≡ ys
same-runs xs ys runs others same = same-runs-from 0 xs ys runs others same

-- sets are `==` exactly if they have the same numbers
pub equal-numbers : (xs ys : List (ℕ × ℕ)) → AreRuns xs → AreRuns ys → Decides (ranges_eq xs ys) ((n : ℕ) → has_number xs n ≡ has_number ys n)
equal-numbers xs ys runs others =
    let equal = ranges-equal xs ys in
    (λ is n. ap (λ l. has_number l n) (equal.0 is), λ same. equal.1 (same-runs xs ys runs others same))
