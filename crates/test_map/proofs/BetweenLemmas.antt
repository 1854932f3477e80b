-- A list whose elements in the middle are changed, from the front on.
use Rattle.std.proofs.Common.{map as each}
use Rattle.std.proofs.Common.{◌≡◌, ◌∙◌, ℕ, zero, suc, ◌+◌, ◌-◌, ◌<◌, ◌≤◌, Bool, true, false, cond, not, nat_lt, inl, inr, List, [], ◌∷◌, ◌++◌, Some, set, slice_get, take, drop, refl, sym, ap, arith}
use Rattle.std.proofs.lemmas.Bool.{cases_Bool, cond-true, ltb-false, ltb-true}
use Rattle.std.proofs.lemmas.List.{take-append-drop}
use Rattle.std.proofs.lemmas.List.Sums.{sum_by-cons}
use Rattle.std.specs.List.{count_by, filter}
use Rattle.test_map.proofs.ChangedLemmas.{changed}

-- what it says that a cursor is empty, or not, of the places of its ends
pub some-places : (m n : ℕ) (empty : Bool) → empty ≡ not (nat_lt m n) → empty ≡ false → m < n
some-places m n empty told is = elim (cases_Bool (nat_lt m n)) [
  | inl less ↦ ltb-true m n less
  | inr more ↦ let no : empty ≡ true = told ∙ ap not more in absurd (cc)
]

pub none-places : (m n : ℕ) (empty : Bool) → empty ≡ not (nat_lt m n) → empty ≡ true → n ≤ m
none-places m n empty told is = elim (cases_Bool (nat_lt m n)) [
  | inl less ↦ let no : empty ≡ false = told ∙ ap not less in absurd (cc)
  | inr more ↦ ltb-false m n more
]

module _ {X : Type 0} (f : X → X) where
  -- the elements from one place up to another are still to be changed
  abbrev pub finished : (front back : ℕ) → List X → List X
  finished front back xs = take front xs ++ changed f (back - front) (drop front xs)

  finished-more : (n left : ℕ) (xs : List X) (x : X) → slice_get xs n ≡ Some x
      → take (suc n) (set xs n (f x)) ++ changed f left (drop (suc n) (set xs n (f x))) ≡ take n xs ++ changed f (suc left) (drop n xs)
  finished-more n left [] x here = absurd (cc)
  finished-more zero left (y ∷ ys) x here = let same : y ≡ x = cc in ap (λ z. f z ∷ changed f left ys) (sym same)
  finished-more (suc n) left (y ∷ ys) x here = ap (λ l. y ∷ l) (finished-more n left ys x here)

  pub finished-step : (front back : ℕ) (xs : List X) (x : X) → front < back → slice_get xs front ≡ Some x
      → finished (front + 1) back (set xs front (f x)) ≡ finished front back xs
  finished-step front back xs x some here =
      let one : front + 1 ≡ suc front = omega arith in
      let left : suc (back - (front + 1)) ≡ back - front = omega arith in
      ap (λ n. take n (set xs front (f x)) ++ changed f (back - (front + 1)) (drop n (set xs front (f x)))) one
      ∙ finished-more front (back - (front + 1)) xs x here
      ∙ ap (λ n. take front xs ++ changed f n (drop front xs)) left

  pub finished-all : (front back : ℕ) (xs : List X) → back ≤ front → finished front back xs ≡ xs
  finished-all front back xs none =
      let left : back - front ≡ 0 = omega arith in
      ap (λ n. take front xs ++ changed f n (drop front xs)) left ∙ take-append-drop front xs

  module _ (p : X → Bool) where
    -- the elements that pass are changed
    abbrev pub if_passing : X → X
    if_passing x = cond (p x) (f x) x

    none-pass : (xs : List X) → filter p xs ≡ [] → each if_passing xs ≡ xs
    none-pass [] none = refl
    none-pass (x ∷ xs) none = by (p x) refl (none-pass xs)
      where
        by : (b : Bool) → p x ≡ b → (filter p xs ≡ [] → each if_passing xs ≡ xs) → each if_passing (x ∷ xs) ≡ x ∷ xs
        by true is rest =
            let some : filter p (x ∷ xs) ≡ x ∷ filter p xs = ap (λ b. cond b (x ∷ filter p xs) (filter p xs)) is in
            let no : x ∷ filter p xs ≡ [] = sym some ∙ none in
            absurd (cc)
        by false is rest =
            let fewer : filter p xs ≡ [] = sym (ap (λ b. cond b (x ∷ filter p xs) (filter p xs)) is) ∙ none in
            (λ i. cond (is i) (f x) x ∷ each if_passing xs) ∙ ap (λ l. x ∷ l) (rest fewer)

    -- what a filter begins with passes
    first-passes : (xs : List X) (x : X) (ys : List X) → filter p xs ≡ x ∷ ys → p x ≡ true
    first-passes [] x ys e = absurd (cc)
    first-passes (z ∷ zs) x ys e = by (p z) refl (first-passes zs x ys)
      where
        by : (b : Bool) → p z ≡ b → (filter p zs ≡ x ∷ ys → p x ≡ true) → p x ≡ true
        by true is rest =
            let some : filter p (z ∷ zs) ≡ z ∷ filter p zs = ap (λ b. cond b (z ∷ filter p zs) (filter p zs)) is in
            let both : z ∷ filter p zs ≡ x ∷ ys = sym some ∙ e in
            let same : z ≡ x = cc in
            ap p (sym same) ∙ is
        by false is rest = rest (sym (ap (λ b. cond b (z ∷ filter p zs) (filter p zs)) is) ∙ e)

    first-part : (n : ℕ) (xs : List X) → filter p xs ≡ take n xs → changed f n xs ≡ each if_passing xs
    first-part zero xs e = sym (none-pass xs e)
    first-part (suc n) [] e = refl
    first-part (suc n) (x ∷ xs) e =
        let here = first-passes (x ∷ xs) x (take n xs) e in
        let some : filter p (x ∷ xs) ≡ x ∷ filter p xs = ap (λ b. cond b (x ∷ filter p xs) (filter p xs)) here in
        let both : x ∷ filter p xs ≡ x ∷ take n xs = sym some ∙ e in
        let rest : filter p xs ≡ take n xs = cc in
        (λ i. f x ∷ first-part n xs rest i) ∙ (λ i. cond (sym here i) (f x) x ∷ each if_passing xs)

    count-cons : (x : X) (xs : List X) → count_by p (x ∷ xs) ≡ cond (p x) 1 0 + count_by p xs
    count-cons x xs = sum_by-cons (λ y. cond (p y) 1 0) x xs

    fewer-dropped : (n : ℕ) (xs : List X) → count_by p (drop n xs) ≤ count_by p xs
    fewer-dropped zero xs = omega arith
    fewer-dropped (suc n) [] = omega arith
    fewer-dropped (suc n) (x ∷ xs) = let c = count-cons x xs in let r = fewer-dropped n xs in omega arith

    fewer-taken : (n : ℕ) (xs : List X) → count_by p (take n xs) ≤ count_by p xs
    fewer-taken zero xs = omega arith
    fewer-taken (suc n) [] = omega arith
    fewer-taken (suc n) (x ∷ xs) = let c = count-cons x (take n xs) in let d = count-cons x xs in let r = fewer-taken n xs in omega arith

    twice : (xs : List X) → count_by p (filter p xs) ≡ count_by p xs
    twice [] = refl
    twice (x ∷ xs) = by (p x) refl (twice xs)
      where
        by : (b : Bool) → p x ≡ b → count_by p (filter p xs) ≡ count_by p xs → count_by p (filter p (x ∷ xs)) ≡ count_by p (x ∷ xs)
        by true is rest =
            let some : filter p (x ∷ xs) ≡ x ∷ filter p xs = ap (λ b. cond b (x ∷ filter p xs) (filter p xs)) is in
            ap (count_by p) some ∙ count-cons x (filter p xs) ∙ ap (λ n. cond (p x) 1 0 + n) rest ∙ sym (count-cons x xs)
        by false is rest =
            let fewer : filter p (x ∷ xs) ≡ filter p xs = ap (λ b. cond b (x ∷ filter p xs) (filter p xs)) is in
            ap (count_by p) fewer ∙ rest ∙ sym (count-cons x xs ∙ passed (p x) is)
          where
            passed : (b : Bool) → b ≡ false → cond b 1 0 + count_by p xs ≡ count_by p xs
            passed b e = rw e (omega arith)

    -- if those that pass are the ones between two places, then these are changed
    pub finished-passing : (front n : ℕ) (xs : List X) → filter p xs ≡ take n (drop front xs) → take front xs ++ changed f n (drop front xs) ≡ each if_passing xs
    finished-passing zero n xs e = first-part n xs e
    finished-passing (suc front) n [] e = first-part n [] e
    finished-passing (suc front) n (x ∷ xs) e = by (p x) refl (finished-passing front n xs)
      where
        by : (b : Bool) → p x ≡ b → (filter p xs ≡ take n (drop front xs) → take front xs ++ changed f n (drop front xs) ≡ each if_passing xs)
            → x ∷ (take front xs ++ changed f n (drop front xs)) ≡ cond (p x) (f x) x ∷ each if_passing xs
        by true is rest =
            let a = count-cons x xs in
            let b : cond (p x) 1 0 ≡ suc zero = cond-true (p x) 1 0 is in
            let c = ap (count_by p) e in
            let d = twice (x ∷ xs) in
            let g = fewer-taken n (drop front xs) in
            let h = fewer-dropped front xs in
            absurd (omega arith)
        by false is rest =
            let fewer : filter p (x ∷ xs) ≡ filter p xs = ap (λ b. cond b (x ∷ filter p xs) (filter p xs)) is in
            ap (λ l. x ∷ l) (rest (sym fewer ∙ e)) ∙ (λ i. cond (sym is i) (f x) x ∷ each if_passing xs)
