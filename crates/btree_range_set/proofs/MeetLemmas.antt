-- The ranges that have one of some numbers: those that start between two bounds.
use Rattle.btree_range_set.proofs.Common.{◌≡◌, ◌≤◌, ◌<◌, ◌∙◌, ℕ, zero, suc, max, Bool, true, false, not, ◌&&◌, List, [], ◌∷◌, slice_get, Some, refl, sym, ap, subst, arith, ◌⊎◌, inl, inr, cases_lt, le-ltb, lt-ltb, nat_cmp, same_Some, within-from, within-high, within-low, IsRangeAround, AreRuns, AreRunsFrom, has_number, ranges_meeting}
use Rattle.std.proofs.Common.{IsFalse, IsTrue, None, Option, min, cond, is_some, Ordering}
use Rattle.std.proofs.lemmas.Bool.{and_left, cases_order}
use Rattle.std.proofs.lemmas.Cmp.{ranked}
use Rattle.std.specs.BTreeMap.Range.{entries_between, range_contains}
use Rattle.std.specs.List.{filter}
use Rattle.std.specs.Iterator.{YieldsFirst}
use Rattle.std.specs.Ordering.{is_le}
use Rattle.std.specs.declared.cmp.Ordering.TheVariants.{Equal, Greater, Less}
use Rattle.std.specs.declared.ops.Bound.TheVariants.{Included, Excluded}
use Rattle.btree_range_set.specs.CallerLaws.{none-meet, some-meet}
use Rattle.btree_range_set.specs.Ranges.{Overlaps, OverlapsNone, meets}
use Rattle.btree_range_set.proofs.RunLemmas.{has-here, run-at}

-- ---- comparisons of numbers
le-by : (x y : ℕ) (o : Ordering) → o ≡ nat_cmp x y → x ≤ y → is_le o ≡ true
le-by x y Less is le = refl
le-by x y Equal is le = refl
le-by x y Greater is le = let above = ranked x y Greater is in absurd (omega (arith, above, le))

gt-by : (x y : ℕ) (o : Ordering) → o ≡ nat_cmp x y → y < x → is_le o ≡ false
gt-by x y Less is lt = let below = ranked x y Less is in absurd (omega (arith, below, lt))
gt-by x y Equal is lt = let same = ranked x y Equal is in absurd (omega (arith, same, lt))
gt-by x y Greater is lt = refl

le-true : (x y : ℕ) → x ≤ y → is_le (nat_cmp x y) ≡ true
le-true x y le = le-by x y (nat_cmp x y) refl le

le-false : (x y : ℕ) → y < x → is_le (nat_cmp x y) ≡ false
le-false x y lt = gt-by x y (nat_cmp x y) refl lt

-- ---- one test for another
filter-same : {X : Type 0} (test other : X → Bool) (xs : List X) → ((p : ℕ) (x : X) → slice_get xs p ≡ Some x → test x ≡ other x) → filter test xs ≡ filter other xs
filter-same test other [] same = refl
filter-same test other (x ∷ xs) same =
    ap (λ b. cond b (x ∷ filter test xs) (filter test xs)) (same zero x refl)
    ∙ ap (λ l. cond (other x) (x ∷ l) l) (filter-same test other xs (λ p y at. same (suc p) y at))

-- a range has one of the numbers if it starts between `first` and `e`, where it does not end by `s` exactly if it starts
-- at `first` or later
between-bounds : (first s e : ℕ) (x : ℕ × ℕ) → s < e → x.0 < x.1 → (first ≤ x.0 → s < x.1) → (s < x.1 → first ≤ x.0)
    → range_contains nat_cmp (Included first) (Excluded e) x.0 ≡ meets s e x
between-bounds first s e x some range ends starts = elim (cases_lt s x.1) [
  | inr past ↦
      and_left (is_le (nat_cmp first x.0)) (not (is_le (nat_cmp e x.0))) (le-false first x.0 (below (cases_lt x.0 first) past))
      ∙ sym (le-ltb (max s x.0) (min e x.1) (omega (arith, past)))
  | inl ahead ↦ elim (cases_lt x.0 e) [
    | inl before ↦ rw (le-true first x.0 (starts ahead), le-false e x.0 before) (sym (lt-ltb (max s x.0) (min e x.1) (omega (arith, some, range, ahead, before))))
    | inr after ↦ rw (le-true first x.0 (starts ahead), le-true e x.0 after) (sym (le-ltb (max s x.0) (min e x.1) (omega (arith, after))))
  ]
]
  where
    below : (x.0 < first) ⊎ (first ≤ x.0) → x.1 ≤ s → x.0 < first
    below (inl lt) past = lt
    below (inr le) past = let end = ends le in absurd (omega (arith, end, past))

-- ---- at which start the ranges begin
ranges-apart : (low : ℕ) (xs : List (ℕ × ℕ)) (p q : ℕ) (x y : ℕ × ℕ) → AreRunsFrom low xs → slice_get xs p ≡ Some x → slice_get xs q ≡ Some y → p < q → x.1 < y.0
ranges-apart low [] p q x y runs at there lt = absurd (cc)
ranges-apart low (z ∷ xs) p zero x y runs at there lt = absurd (omega (arith, lt))
ranges-apart low (z ∷ xs) zero (suc q) x y runs at there lt =
    let same : z ≡ x = same_Some _ _ at in
    let later = run-at (suc z.1) xs q y runs.2 there in
    subst (λ r. r.1 < y.0) same (omega (arith, later.0))
ranges-apart low (z ∷ xs) (suc p) (suc q) x y runs at there lt = ranges-apart (suc z.1) xs p q x y runs.2 at there (omega (arith, lt))

module _ (xs : List (ℕ × ℕ)) (runs : AreRuns xs) (s e : ℕ) where
  module _ (r : ℕ × ℕ) (around : IsRangeAround xs s r) (p : ℕ) (x : ℕ × ℕ) (at : slice_get xs p ≡ Some x) where
    low : r.0 ≤ s
    low = within-low r s around.inside

    high : s < r.1
    high = within-high r s around.inside

    not-before : (r.0 ≤ x.0 → s < x.1) × (s < x.1 → r.0 ≤ x.0)
    not-before = elim (cases_order p around.index) [
      | inl same ↦
          let is : r ≡ x = same_Some _ _ (sym around.listed ∙ ap (slice_get xs) (sym same) ∙ at) in
          (λ starts. subst (λ (z : ℕ × ℕ). s < z.1) is high, λ ends. subst (λ (z : ℕ × ℕ). r.0 ≤ z.0) is (omega arith))
      | inr differs ↦ elim differs [
        | inl before ↦
            let apart = ranges-apart 0 xs p around.index x r runs at around.listed before in
            let some = run-at 0 xs p x runs at in
            (λ starts. absurd (omega (arith, apart, some.1, starts)), λ ends. absurd (omega (arith, apart, ends, low)))
        | inr after ↦
            let apart = ranges-apart 0 xs around.index p r x runs around.listed at after in
            let some = run-at 0 xs p x runs at in
            (λ starts. omega (arith, apart, some.1, high), λ ends. omega (arith, apart, low, high))
      ]
    ]

  -- from the start of the range that has the first number
  pub meeting-around : (r : ℕ × ℕ) → IsRangeAround xs s r → s < e → entries_between nat_cmp (Included r.0) (Excluded e) xs ≡ ranges_meeting s e xs
  meeting-around r around some =
      filter-same (λ x. range_contains nat_cmp (Included r.0) (Excluded e) x.0) (meets s e) xs
      (λ p x at.
      let here = run-at 0 xs p x runs at in
      let both = not-before r around p x at in
      between-bounds r.0 s e x some here.1 both.0 both.1)

  -- from the first number, if it is in no range
  pub meeting-none : has_number xs s ≡ false → s < e → entries_between nat_cmp (Included s) (Excluded e) xs ≡ ranges_meeting s e xs
  meeting-none none some =
      filter-same (λ x. range_contains nat_cmp (Included s) (Excluded e) x.0) (meets s e) xs
      (λ p x at.
      let here = run-at 0 xs p x runs at in
      between-bounds s s e x some here.1 (λ starts. omega (arith, here.1, starts)) (λ ends. starts p x at ends (cases_lt x.0 s)))
    where
      starts : (p : ℕ) (x : ℕ × ℕ) → slice_get xs p ≡ Some x → s < x.1 → (x.0 < s) ⊎ (s ≤ x.0) → s ≤ x.0
      starts p x at ends (inr le) = le
      starts p x at ends (inl lt) = let has = has-here xs p x at s (within-from x s (omega (arith, lt)) ends) in absurd (cc)

  -- none has one of no numbers
  pub meeting-empty : e ≤ s → entries_between nat_cmp (Included s) (Excluded s) xs ≡ ranges_meeting s e xs
  meeting-empty none =
      filter-same (λ x. range_contains nat_cmp (Included s) (Excluded s) x.0) (meets s e) xs
      (λ p x at. and-not (is_le (nat_cmp s x.0)) ∙ sym (le-ltb (max s x.0) (min e x.1) (omega (arith, none))))
    where
      and-not : (b : Bool) → (b && not b) ≡ false
      and-not true = refl
      and-not false = refl

-- whether the first of the ranges that meet numbers is there tells whether one of these numbers is in the set
pub first-tells : (start end : ℕ) (xs rest new : List (ℕ × ℕ)) (r : Option (ℕ × ℕ)) → rest ≡ ranges_meeting start end xs → YieldsFirst (λ rest. rest) rest r new
    → (is : Bool) → is ≡ is_some r → (IsTrue is → Overlaps xs start end) × (IsFalse is → OverlapsNone xs start end)
first-tells start end xs rest new None same steps true told = absurd (cc)
first-tells start end xs rest new None same steps false told = (λ yes. absurd (cc), λ no. none-meet start end xs (sym same ∙ steps.0))
first-tells start end xs rest new (Some x) same steps true told = (λ yes. some-meet start end xs x new (sym same ∙ steps), λ no. absurd (cc))
first-tells start end xs rest new (Some x) same steps false told = absurd (cc)
