-- A list cut at a place: its first element after the place, and both parts after an edit there.
use Rattle.btree_map.proofs.Common.{◌≡◌, ◌∙◌, ℕ, zero, suc, ◌+◌, ◌-◌, ◌<◌, ◌≤◌, List, [], ◌∷◌, ◌++◌, Some, length, take, drop, set, slice_get, refl, sym, ap, subst, arith, same_Some, insert, remove, Ordering, KeyFits}
use Rattle.std.proofs.lemmas.List.{length-take-le}
use Rattle.btree_map.specs.Editing.{FitsBetween}

module _ {X : Type 0} where
  -- the first element after the cut
  pub drop-first : (n : ℕ) (xs : List X) → slice_get (drop n xs) 0 ≡ slice_get xs n
  drop-first zero xs = refl
  drop-first (suc n) [] = refl
  drop-first (suc n) (x ∷ xs) = drop-first n xs

  take-before : (n m : ℕ) (xs : List X) → m < n → slice_get (take n xs) m ≡ slice_get xs m
  take-before zero m xs less = absurd (omega arith)
  take-before (suc n) m [] less = refl
  take-before (suc n) zero (x ∷ xs) less = refl
  take-before (suc n) (suc m) (x ∷ xs) less = take-before n m xs (omega arith)

  -- the last element before the cut
  pub take-last : (n : ℕ) (xs : List X) → suc n ≤ length xs → slice_get (take (suc n) xs) (length (take (suc n) xs) - 1) ≡ slice_get xs n
  take-last n xs low =
      let l = length-take-le (suc n) xs low in
      let last : length (take (suc n) xs) - 1 ≡ n = omega arith in
      ap (slice_get (take (suc n) xs)) last ∙ take-before (suc n) n xs (omega arith)

  module _ (x y : X) where
    one : (n : ℕ) → suc n ≡ n + 1
    one n = omega arith

    -- ---- the element after the cut is replaced
    set-cut : (n : ℕ) (xs : List X) → slice_get xs n ≡ Some x
        → (take (suc n) (set xs n y) ≡ take n xs ++ y ∷ []) × (drop n xs ≡ x ∷ drop (suc n) (set xs n y))
        × (take n (set xs n y) ≡ take n xs) × (drop n (set xs n y) ≡ y ∷ drop (suc n) (set xs n y))
    set-cut n [] here = absurd (cc)
    set-cut zero (z ∷ xs) here = (refl, ap (λ w. w ∷ xs) (same_Some z x here), refl, refl)
    set-cut (suc n) (z ∷ xs) here =
        let rest = set-cut n xs here in
        (ap (λ (l : List X). z ∷ l) rest.0, rest.1, ap (λ (l : List X). z ∷ l) rest.2, rest.3)

    module _ (n : ℕ) (xs : List X) (here : slice_get xs n ≡ Some x) where
      pub set-take-more : take (n + 1) (set xs n y) ≡ take n xs ++ y ∷ []
      set-take-more = ap (λ m. take m (set xs n y)) (sym (one n)) ∙ (set-cut n xs here).0

      pub set-drop-more : drop n xs ≡ x ∷ drop (n + 1) (set xs n y)
      set-drop-more = (set-cut n xs here).1 ∙ ap (λ m. x ∷ drop m (set xs n y)) (one n)

      pub set-take : take n (set xs n y) ≡ take n xs
      set-take = (set-cut n xs here).2

      pub set-drop : drop n (set xs n y) ≡ y ∷ drop (n + 1) (set xs n y)
      set-drop = (set-cut n xs here).3 ∙ ap (λ m. y ∷ drop m (set xs n y)) (one n)

  -- ---- an element is inserted at the cut, and goes before it
  module _ (x : X) where
    insert-cut : (n : ℕ) (xs : List X) → n ≤ length xs → (take (suc n) (insert xs n x) ≡ take n xs ++ x ∷ []) × (drop (suc n) (insert xs n x) ≡ drop n xs)
    insert-cut zero [] low = (refl, refl)
    insert-cut zero (z ∷ xs) low = (refl, refl)
    insert-cut (suc n) [] low = absurd (omega arith)
    insert-cut (suc n) (z ∷ xs) low =
        let rest = insert-cut n xs (omega arith) in
        (ap (λ (l : List X). z ∷ l) rest.0, rest.1)

    module _ (n : ℕ) (xs : List X) (low : n ≤ length xs) where
      pub insert-take : take (n + 1) (insert xs n x) ≡ take n xs ++ x ∷ []
      insert-take = ap (λ m. take m (insert xs n x)) (sym (one x x n)) ∙ (insert-cut n xs low).0

      pub insert-drop : drop (n + 1) (insert xs n x) ≡ drop n xs
      insert-drop = ap (λ m. drop m (insert xs n x)) (sym (one x x n)) ∙ (insert-cut n xs low).1

    -- ---- the element after the cut is removed
    remove-cut : (n : ℕ) (xs : List X) → slice_get xs n ≡ Some x → (take n (remove xs n) ≡ take n xs) × (drop n xs ≡ x ∷ drop n (remove xs n))
    remove-cut n [] here = absurd (cc)
    remove-cut zero (z ∷ xs) here = (refl, ap (λ w. w ∷ xs) (same_Some z x here))
    remove-cut (suc n) (z ∷ xs) here =
        let rest = remove-cut n xs here in
        (ap (λ (l : List X). z ∷ l) rest.0, rest.1)

    module _ (n : ℕ) (xs : List X) (here : slice_get xs n ≡ Some x) where
      pub remove-take : take n (remove xs n) ≡ take n xs
      remove-take = (remove-cut n xs here).0

      pub remove-drop : drop n xs ≡ x ∷ drop n (remove xs n)
      remove-drop = (remove-cut n xs here).1

-- the cut moves behind the next element
module _ {X : Type 0} where
  next-cut : (n : ℕ) (xs : List X) → 0 < length (drop n xs) → (x : X) × (take (suc n) xs ≡ take n xs ++ x ∷ []) × (drop n xs ≡ x ∷ drop (suc n) xs)
  next-cut zero [] low = absurd (omega arith)
  next-cut zero (x ∷ xs) low = (x, refl, refl)
  next-cut (suc n) [] low = absurd (omega arith)
  next-cut (suc n) (y ∷ xs) low =
      let rest = next-cut n xs low in
      (rest.0, ap (λ (l : List X). y ∷ l) rest.1, rest.2)

  pub pass-cut : (n : ℕ) (xs : List X) → 0 < length (drop n xs) → (x : X) × (take (n + 1) xs ≡ take n xs ++ x ∷ []) × (drop n xs ≡ x ∷ drop (n + 1) xs)
  pass-cut n xs low =
      let more : suc n ≡ n + 1 = omega arith in
      subst (λ m. (x : X) × (take m xs ≡ take n xs ++ x ∷ []) × (drop n xs ≡ x ∷ drop m xs)) more (next-cut n xs low)

-- a key fits at a place exactly if it lies between the two parts
module _ {K V : Type 0} (cmp : K → K → Ordering) (k : K) where
  pub fits-between : (n : ℕ) (xs : List (K × V)) → KeyFits cmp k n xs → FitsBetween cmp k (take n xs) (drop n xs)
  fits-between zero xs f = record {
    above = λ x here. absurd (cc);
    below = λ x here. f.below x (sym (drop-first zero xs) ∙ here);
  }
  fits-between (suc n) xs f = record {
    above = λ x here. f.above n x refl (sym (take-last n xs f.within) ∙ here);
    below = λ x here. f.below x (sym (drop-first (suc n) xs) ∙ here);
  }

  pub between-fits : (n : ℕ) (xs : List (K × V)) → n ≤ length xs → FitsBetween cmp k (take n xs) (drop n xs) → KeyFits cmp k n xs
  between-fits n xs low f = record {
    within = low;
    above = λ q x more here.
        let room : suc q ≤ length xs = omega arith in
        let between = subst (λ (m : ℕ). FitsBetween cmp k (take m xs) (drop m xs)) (sym more) f in
        between.above x (take-last q xs room ∙ here);
    below = λ x here. f.below x (drop-first n xs ∙ here);
  }
