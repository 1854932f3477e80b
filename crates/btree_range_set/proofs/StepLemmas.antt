-- The steps of an insertion and of a removal on the list of ranges.
use Rattle.btree_range_set.proofs.Common.{◌≡◌, ◌≤◌, ◌<◌, ◌∙◌, ℕ, suc, max, Bool, true, false, not, ◌&&◌, ◌||◌, List, length, set, slice_get, Some, refl, sym, ap, arith, ◌⊎◌, inl, inr, cases_Bool, cases_lt, length-set, length-remove, same_Some, slice_get_within, insert, remove, within-from, within-high, within-low, EndsBefore, StartsAfter, AreRuns, has_number, is_within, within-below, within-above}
use Rattle.std.proofs.lemmas.Bool.{or_left}
use Rattle.btree_range_set.specs.Ranges.{IsDifference, IsUnion}
use Rattle.btree_range_set.proofs.ListLemmas.{get-removed, get-removed-below, get-set, get-set-other}
use Rattle.btree_range_set.proofs.RunLemmas.{has-none, has-put, has-set, has-taken, next-apart, run-at, runs-put, runs-set, runs-taken}

pub ends-taken : (xs : List (ℕ × ℕ)) (p n : ℕ) → EndsBefore xs p n → EndsBefore (remove xs p) p n
ends-taken xs p n ends q x next at = ends q x next (sym (get-removed-below xs p q (omega (arith, next))) ∙ at)

-- ---- an insertion that joins ranges
absorb : (x h w : Bool) → (x ≡ true → w ≡ true) → (h || w) ≡ ((x || h) || w)
absorb true true w f = refl
absorb true false w f = f refl
absorb false h w f = refl

spread : (x h w : Bool) → ((x || w) || h) ≡ ((x || h) || w)
spread true h w = refl
spread false true true = refl
spread false true false = refl
spread false false true = refl
spread false false false = refl

-- the range at a place is removed, since it is inside the numbers that are added
pub join-more : (xs : List (ℕ × ℕ)) (p s e : ℕ) (x y : ℕ × ℕ) → AreRuns xs → slice_get xs p ≡ Some x → s ≤ x.0 → slice_get xs (suc p) ≡ Some y → y.0 ≤ e
    → (n : ℕ) → (has_number (remove xs p) n || is_within (s, e) n) ≡ (has_number xs n || is_within (s, e) n)
join-more xs p s e x y runs at low next meets n =
    let apart = next-apart 0 xs p x y runs at next in
    absorb (is_within x n) (has_number (remove xs p) n) (is_within (s, e) n)
    (λ inside. let l = within-low x n inside in let h = within-high x n inside in within-from (s, e) n (omega (arith, l, low)) (omega (arith, h, apart, meets)))
    ∙ ap (λ b. b || is_within (s, e) n) (sym (has-taken xs p x at n))

joined-range : (s e : ℕ) (x : ℕ × ℕ) → s ≤ x.0 → x.0 ≤ e → (n : ℕ) → is_within (s, max e x.1) n ≡ (is_within x n || is_within (s, e) n)
joined-range s e x low meets n = by (cases_Bool (is_within x n)) (cases_Bool (is_within (s, e) n)) where
  whole : ℕ × ℕ
  whole = (s, max e x.1)

  by : (is_within x n ≡ true) ⊎ (is_within x n ≡ false) → (is_within (s, e) n ≡ true) ⊎ (is_within (s, e) n ≡ false)
      → is_within (s, max e x.1) n ≡ (is_within x n || is_within (s, e) n)
  by (inl inside) w = let l = within-low x n inside in let h = within-high x n inside in
      rw inside (within-from (s, max e x.1) n (omega (arith, l, low)) (omega (arith, h)))
  by (inr outside) (inl inside) = let l = within-low (s, e) n inside in let h = within-high (s, e) n inside in
      rw (outside, inside) (within-from (s, max e x.1) n l (omega (arith, h)))
  by (inr outside) (inr out) = rw (outside, out) (neither (cases_Bool (is_within (s, max e x.1) n)))
    where
      neither : (is_within (s, max e x.1) n ≡ true) ⊎ (is_within (s, max e x.1) n ≡ false) → is_within (s, max e x.1) n ≡ false
      neither (inr is) = is
      neither (inl is) =
          let l = within-low (s, max e x.1) n is in
          let h = within-high (s, max e x.1) n is in
          elim (cases_lt n e) [
            | inl lt ↦ let yes = within-from (s, e) n l lt in absurd (cc)
            | inr ge ↦ let yes = within-from x n (omega (arith, meets, ge)) (omega (arith, h, ge)) in absurd (cc)
          ]

pub join-last : (xs : List (ℕ × ℕ)) (p s e : ℕ) (x : ℕ × ℕ) → slice_get xs p ≡ Some x → s ≤ x.0 → x.0 ≤ e → IsUnion xs s e (set xs p (s, max e x.1))
join-last xs p s e x at low meets n =
    has-set xs p x (s, max e x.1) at n ∙ ap (λ b. b || has_number (remove xs p) n) (joined-range s e x low meets n)
    ∙ spread (is_within x n) (has_number (remove xs p) n) (is_within (s, e) n)
    ∙ ap (λ b. b || is_within (s, e) n) (sym (has-taken xs p x at n))

pub join-runs : (xs : List (ℕ × ℕ)) (p s e : ℕ) (x : ℕ × ℕ) → AreRuns xs → slice_get xs p ≡ Some x → s ≤ x.0 → EndsBefore xs p s → StartsAfter xs (suc p) e
    → AreRuns (set xs p (s, max e x.1))
join-runs xs p s e x runs at low ends starts =
    let here = run-at 0 xs p x runs at in
    runs-set 0 xs p (s, max e x.1) runs (slice_get_within xs p x at) (omega (arith, here.1, low)) (λ _. omega arith) ends
    (λ y there. let apart = next-apart 0 xs p x y runs at there in let above = starts y there in omega (arith, apart, above))

-- numbers that a range of the set has may be added too
pub join-wider : (xs : List (ℕ × ℕ)) (q s e : ℕ) (x : ℕ × ℕ) → slice_get xs q ≡ Some x → x.0 ≤ s → s ≤ x.1
    → (n : ℕ) → (has_number xs n || is_within (x.0, e) n) ≡ (has_number xs n || is_within (s, e) n)
join-wider xs q s e x at low high n = by (cases_Bool (has_number xs n)) where
  by : (has_number xs n ≡ true) ⊎ (has_number xs n ≡ false) → (has_number xs n || is_within (x.0, e) n) ≡ (has_number xs n || is_within (s, e) n)
  by (inl has) = rw has refl
  by (inr has_not) = rw has_not (elim (cases_lt n x.0) [
    | inl lt ↦ within-below (x.0, e) n lt ∙ sym (within-below (s, e) n (omega (arith, lt, low)))
    | inr ge ↦ elim (cases_lt n s) [
      | inl lt ↦ let yes = has-taken xs q x at n ∙ or_left (is_within x n) (has_number (remove xs q) n) (within-from x n ge (omega (arith, lt, high))) in absurd (cc)
      | inr from ↦ elim (cases_lt n e) [
        | inl lt ↦ within-from (x.0, e) n ge lt ∙ sym (within-from (s, e) n from lt)
        | inr above ↦ within-above (x.0, e) n above ∙ sym (within-above (s, e) n above)
      ]
    ]
  ])

-- ---- an insertion that joins no range
pub put-union : (xs : List (ℕ × ℕ)) (p s e : ℕ) → p ≤ length xs → IsUnion xs s e (insert xs p (s, e))
put-union xs p s e within n = has-put xs p (s, e) within n ∙ or-comm (is_within (s, e) n) (has_number xs n) where
  or-comm : (x y : Bool) → (x || y) ≡ (y || x)
  or-comm true true = refl
  or-comm true false = refl
  or-comm false true = refl
  or-comm false false = refl

and-right : (x y : Bool) → y ≡ false → x ≡ (x && not y)
and-right true y is = rw is refl
and-right false y is = refl

and-false : (x y : Bool) → y ≡ true → (x && not y) ≡ false
and-false true y is = rw is refl
and-false false y is = refl

-- ---- a removal
-- outside the numbers that are taken out, the set is the old one
abbrev pub IsSameOutside : (old : List (ℕ × ℕ)) → (s e : ℕ) → (new : List (ℕ × ℕ)) → Type 0
IsSameOutside old s e new = (n : ℕ) → is_within (s, e) n ≡ false → has_number new n ≡ has_number old n

outside-cases : (s e n : ℕ) → s < e → is_within (s, e) n ≡ false → (n < s) ⊎ (e ≤ n)
outside-cases s e n some out = elim (cases_lt n s) [
  | inl lt ↦ inl lt
  | inr ge ↦ elim (cases_lt n e) [ inl lt ↦ let yes = within-from (s, e) n ge lt in absurd (cc) | inr above ↦ inr above ]
]

-- outside [s, e), a range inside it has no numbers
inside-outside : (s e n : ℕ) (x : ℕ × ℕ) → s ≤ x.0 → x.1 ≤ e → is_within (s, e) n ≡ false → is_within x n ≡ false
inside-outside s e n x low high out = by (cases_Bool (is_within x n)) where
  by : (is_within x n ≡ true) ⊎ (is_within x n ≡ false) → is_within x n ≡ false
  by (inr is) = is
  by (inl is) =
      let l = within-low x n is in
      let h = within-high x n is in
      let yes = within-from (s, e) n (omega (arith, l, low)) (omega (arith, h, high)) in
      absurd (cc)

or-false-left : (x y : Bool) → x ≡ false → y ≡ (x || y)
or-false-left x y is = rw is refl

pub clear-more : (old xs : List (ℕ × ℕ)) (p s e : ℕ) (x : ℕ × ℕ) → slice_get xs p ≡ Some x → s ≤ x.0 → x.1 ≤ e
    → IsSameOutside old s e xs → IsSameOutside old s e (remove xs p)
clear-more old xs p s e x at low high same n out =
    or-false-left (is_within x n) (has_number (remove xs p) n) (inside-outside s e n x low high out) ∙ sym (has-taken xs p x at n) ∙ same n out

-- the range is replaced with the part of it that is outside
pub clear-part : (old xs : List (ℕ × ℕ)) (p s e : ℕ) (x y : ℕ × ℕ) → slice_get xs p ≡ Some x
    → ((n : ℕ) → is_within (s, e) n ≡ false → is_within y n ≡ is_within x n)
    → IsSameOutside old s e xs → IsSameOutside old s e (set xs p y)
clear-part old xs p s e x y at part same n out =
    has-set xs p x y at n ∙ ap (λ b. b || has_number (remove xs p) n) (part n out) ∙ sym (has-taken xs p x at n) ∙ same n out

-- the part above e
pub right-part : (s e : ℕ) (x : ℕ × ℕ) → s < e → s ≤ x.0 → x.0 < e → (n : ℕ) → is_within (s, e) n ≡ false → is_within (e, x.1) n ≡ is_within x n
right-part s e x some low cut n out = elim (outside-cases s e n some out) [
  | inl below ↦ within-below (e, x.1) n (omega (arith, below, some)) ∙ sym (within-below x n (omega (arith, below, low)))
  | inr above ↦ elim (cases_lt n x.1) [
    | inl lt ↦ within-from (e, x.1) n above lt ∙ sym (within-from x n (omega (arith, above, cut)) lt)
    | inr ge ↦ within-above (e, x.1) n ge ∙ sym (within-above x n ge)
  ]
]

-- the part below s
pub left-part : (s e : ℕ) (x : ℕ × ℕ) → s < e → s < x.1 → x.1 ≤ e → (n : ℕ) → is_within (s, e) n ≡ false → is_within (x.0, s) n ≡ is_within x n
left-part s e x some cut high n out = elim (outside-cases s e n some out) [
  | inr above ↦ within-above (x.0, s) n (omega (arith, above, some)) ∙ sym (within-above x n (omega (arith, above, high)))
  | inl below ↦ elim (cases_lt n x.0) [
    | inl lt ↦ within-below (x.0, s) n lt ∙ sym (within-below x n lt)
    | inr ge ↦ within-from (x.0, s) n ge below ∙ sym (within-from x n ge (omega (arith, below, cut)))
  ]
]

-- nothing from s on is left below e
pub clear-done : (old xs : List (ℕ × ℕ)) (p s e : ℕ) → AreRuns xs → p ≤ length xs → EndsBefore xs p (suc s)
    → ((x : ℕ × ℕ) → slice_get xs p ≡ Some x → e ≤ x.0) → IsSameOutside old s e xs → IsDifference old s e xs
clear-done old xs p s e runs within ends starts same n = by (cases_Bool (is_within (s, e) n)) where
  by : (is_within (s, e) n ≡ true) ⊎ (is_within (s, e) n ≡ false) → has_number xs n ≡ (has_number old n && not (is_within (s, e) n))
  by (inr out) = same n out ∙ and-right (has_number old n) (is_within (s, e) n) out
  by (inl inside) =
      let l = within-low (s, e) n inside in
      let h = within-high (s, e) n inside in
      has-none 0 xs p n runs within
      (λ q x next at. let end = ends q x next at in omega (arith, end, l))
      (λ x at. let start = starts x at in omega (arith, start, h))
      ∙ sym (and-false (has_number old n) (is_within (s, e) n) inside)

-- ---- a range cut in two
module _ (xs : List (ℕ × ℕ)) (q s e : ℕ) (x : ℕ × ℕ) (runs : AreRuns xs) (at : slice_get xs q ≡ Some x) (left : x.0 < s) (some : s < e) (right : e < x.1) where
  cut : List (ℕ × ℕ)
  cut = insert (set xs q (x.0, s)) (suc q) (e, x.1)

  left-runs : AreRuns (set xs q (x.0, s))
  left-runs =
      runs-set 0 xs q (x.0, s) runs (slice_get_within xs q x at) left (λ _. omega arith)
      (λ r y next there. next-apart 0 xs r y x runs there (ap (slice_get xs) next ∙ at))
      (λ y there. let apart = next-apart 0 xs q x y runs at there in omega (arith, apart, some, right))

  pub cut-runs : AreRuns (insert (set xs q (x.0, s)) (suc q) (e, x.1))
  cut-runs =
      let within = slice_get_within xs q x at in
      let same = length-set xs q (x.0, s) in
      runs-put 0 (set xs q (x.0, s)) (suc q) (e, x.1) left-runs (omega (arith, within, same)) right (λ _. omega arith)
      (λ r y next there.
      let r_is : r ≡ q = omega (arith, next) in
      let is : y ≡ (x.0, s) = same_Some _ _ (sym there ∙ ap (slice_get (set xs q (x.0, s))) r_is ∙ get-set xs q (x.0, s) within) in
      let end = ap (λ z. z.1) is in omega (arith, end, some))
      (λ y there.
      let there_old = sym (get-set-other xs q (suc q) (x.0, s) (λ is. omega (arith, is))) ∙ there in
      next-apart 0 xs q x y runs at there_old)

  others-none : (n : ℕ) → s ≤ n → n < e → has_number (remove xs q) n ≡ false
  others-none n low high =
      let within = slice_get_within xs q x at in
      let fewer = length-remove xs q within in
      has-none 0 (remove xs q) q n (runs-taken 0 xs q runs) (omega (arith, within, fewer))
      (λ r y next there.
      let old = sym (get-removed-below xs q r (omega (arith, next))) ∙ there in
      let apart = next-apart 0 xs r y x runs old (ap (slice_get xs) next ∙ at) in
      omega (arith, apart, left, low))
      (λ y there. let apart = next-apart 0 xs q x y runs at (sym (get-removed xs q) ∙ there) in omega (arith, apart, high, right))

  parts : (n : ℕ) → (is_within (e, x.1) n || (is_within (x.0, s) n || has_number (remove xs q) n)) ≡ (has_number xs n && not (is_within (s, e) n))
  parts n = elim (cases_lt n s) [
    | inl low ↦
        let out : is_within (s, e) n ≡ false = within-below (s, e) n low in
        let r : is_within (e, x.1) n ≡ false = within-below (e, x.1) n (omega (arith, low, some)) in
        let l : is_within (x.0, s) n ≡ is_within x n = elim (cases_lt n x.0) [
          | inl lt ↦ within-below (x.0, s) n lt ∙ sym (within-below x n lt)
          | inr ge ↦ within-from (x.0, s) n ge low ∙ sym (within-from x n ge (omega (arith, low, some, right)))
        ] in
        rw (r, l) (sym (has-taken xs q x at n) ∙ and-right (has_number xs n) (is_within (s, e) n) out)
    | inr from ↦ elim (cases_lt n e) [
      | inl low ↦
          let r : is_within (e, x.1) n ≡ false = within-below (e, x.1) n low in
          let l : is_within (x.0, s) n ≡ false = within-above (x.0, s) n from in
          let none = others-none n from low in
          rw (r, l, none) (sym (and-false (has_number xs n) (is_within (s, e) n) (within-from (s, e) n from low)))
      | inr above ↦
          let out : is_within (s, e) n ≡ false = within-above (s, e) n above in
          let l : is_within (x.0, s) n ≡ false = within-above (x.0, s) n from in
          let r : is_within (e, x.1) n ≡ is_within x n = elim (cases_lt n x.1) [
            | inl lt ↦ within-from (e, x.1) n above lt ∙ sym (within-from x n (omega (arith, above, some, left)) lt)
            | inr ge ↦ within-above (e, x.1) n ge ∙ sym (within-above x n ge)
          ] in
          rw (l, r) (sym (has-taken xs q x at n) ∙ and-right (has_number xs n) (is_within (s, e) n) out)
    ]
  ]

  pub cut-difference : IsDifference xs s e (insert (set xs q (x.0, s)) (suc q) (e, x.1))
  cut-difference n =
      let within = slice_get_within xs q x at in
      let same = length-set xs q (x.0, s) in
      has-put (set xs q (x.0, s)) (suc q) (e, x.1) (omega (arith, within, same)) n
      ∙ ap (λ b. is_within (e, x.1) n || b) (has-set xs q x (x.0, s) at n)
      ∙ parts n
