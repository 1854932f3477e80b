-- Stores into a list, of which the first elements are in use, and what is read of it.
use Rattle.btree_item.proofs.Common.{◌≡◌, ℕ, ◌+◌, ◌<◌, ◌≤◌, List, [], ◌∷◌, ◌++◌, Option, Some, None, IsSome, length, take, drop, set, get_or, zero, suc, refl, sym, ◌∙◌, ap, arith, slice_get, insert, refill, remove}
use Rattle.std.proofs.Common.{Bor}
use Rattle.std.specs.Option.{option_copied}
use Rattle.std.specs.Prelude.{is_some}
use Rattle.std.proofs.lemmas.List.{length-set, length-take-le, take-set, take-set-le, take_more_set, append_assoc}
use Rattle.btree_item.proofs.PairEdits.{remove-insert, slice_get-insert}

module _ {X : Type 0} where
  take-whole : (ys zs : List X) → take (length ys) (ys ++ zs) ≡ ys
  take-whole [] zs = refl
  take-whole (y ∷ ys) zs = ap (λ l. y ∷ l) (take-whole ys zs)

  -- what a store through a `&mut` to all elements leaves
  pub stored : (xs ys : List X) (i : ℕ) (y : X) → ys ≡ xs → refill (length xs) xs (set ys i y) ≡ set xs i y
  stored xs ys i y is =
      ap (λ l. refill (length xs) xs (set l i y)) is
      ∙ ap (λ n. take n (set xs i y ++ drop (length (set xs i y)) xs)) (sym (length-set xs i y))
      ∙ take-whole (set xs i y) (drop (length (set xs i y)) xs)

  pub length-stored : (xs ys : List X) (i : ℕ) (y : X) → ys ≡ xs → length (refill (length xs) xs (set ys i y)) ≡ length xs
  length-stored xs ys i y is = ap (λ l. length l) (stored xs ys i y is) ∙ length-set xs i y

  -- what lies before the store is as before
  pub stored-after-from : (xs ys : List X) (n i : ℕ) (y : X) → ys ≡ xs → n ≤ i → take n (refill (length xs) xs (set ys i y)) ≡ take n xs
  stored-after-from xs ys n i y is before = ap (take n) (stored xs ys i y is) ∙ take-set-le n xs i y before

  pub stored-after : (xs ys : List X) (i : ℕ) (y : X) → ys ≡ xs → take i (refill (length xs) xs (set ys i y)) ≡ take i xs
  stored-after xs ys i y is = ap (take i) (stored xs ys i y is) ∙ take-set xs i y

  pub take-take : (m n : ℕ) (xs : List X) → m ≤ n → take m (take n xs) ≡ take m xs
  take-take zero n xs within = refl
  take-take (suc m) zero xs within = absurd (omega (arith, within))
  take-take (suc m) (suc n) [] within = refl
  take-take (suc m) (suc n) (x ∷ xs) within = ap (λ l. x ∷ l) (take-take m n xs (omega (arith, within)))

  -- an index of the list has an element
  pub is_some-within : (xs : List X) (i : ℕ) → i < length xs → IsSome (slice_get xs i)
  is_some-within [] i within = absurd (omega (arith, within))
  is_some-within (x ∷ xs) zero within = refl
  is_some-within (x ∷ xs) (suc i) within = is_some-within xs i (omega (arith, within))

  -- and so a reference to it is there
  pub is_some-copied : (o : Option (Bor X)) (xs : List X) (i : ℕ) → option_copied o ≡ slice_get xs i → i < length xs → IsSome o
  is_some-copied (Some x) xs i at within = refl
  is_some-copied None xs i at within = ap is_some at ∙ is_some-within xs i within

  -- what is read through a `&mut` to all elements, whatever stands for an element that is not there
  pub read-at : (xs ys : List X) (i : ℕ) (blank r : X) → ys ≡ xs → i < length xs → r ≡ get_or ys i blank → r ≡ get_or xs i r
  read-at xs ys i blank r is within read = read ∙ ap (λ l. get_or l i blank) is ∙ any xs i within
    where
      any : (xs : List X) (i : ℕ) → i < length xs → get_or xs i blank ≡ get_or xs i r
      any [] i within = absurd (omega (arith, within))
      any (x ∷ xs) zero within = refl
      any (x ∷ xs) (suc i) within = any xs i (omega (arith, within))

  -- the element at an index and what is carried change places, and the next index is next
  pub carried-right : (xs : List X) (n i : ℕ) (c r : X) → i < n → i < length xs → r ≡ get_or xs i r
      → insert (take n (set xs i c)) (suc i) r ≡ insert (take n xs) i c
  carried-right [] n i c r below within read = absurd (omega (arith, within))
  carried-right (x ∷ xs) zero i c r below within read = absurd (omega (arith, below))
  carried-right (x ∷ xs) (suc n) zero c r below within read = ap (λ y. c ∷ y ∷ take n xs) read
  carried-right (x ∷ xs) (suc n) (suc i) c r below within read =
      ap (λ l. x ∷ l) (carried-right xs n i c r (omega (arith, below)) (omega (arith, within)) read)

  -- the same, where the index before is next
  pub carried-left : (xs : List X) (n i : ℕ) (c r : X) → i < n → i < length xs → r ≡ get_or xs i r
      → insert (take n (set xs i c)) i r ≡ insert (take n xs) (suc i) c
  carried-left [] n i c r below within read = absurd (omega (arith, within))
  carried-left (x ∷ xs) zero i c r below within read = absurd (omega (arith, below))
  carried-left (x ∷ xs) (suc n) zero c r below within read = ap (λ y. y ∷ c ∷ take n xs) read
  carried-left (x ∷ xs) (suc n) (suc i) c r below within read =
      ap (λ l. x ∷ l) (carried-left xs n i c r (omega (arith, below)) (omega (arith, within)) read)

  -- the first element that is not in use, behind those that are
  pub inserted-last : (xs : List X) (n : ℕ) (c : X) → n < length xs → c ≡ get_or xs n c → insert (take n xs) n c ≡ take (suc n) xs
  inserted-last [] n c within read = absurd (omega (arith, within))
  inserted-last (x ∷ xs) zero c within read = ap (λ y. y ∷ []) read
  inserted-last (x ∷ xs) (suc n) c within read = ap (λ l. x ∷ l) (inserted-last xs n c (omega (arith, within)) read)

  -- one more element moves from one list to the other
  pub moved-next : (xs ys : List X) (n i k : ℕ) (blank r : X) → i < n → i < length xs → k < length ys → r ≡ get_or xs i r
      → take (k + 1) (set ys k r) ++ drop (suc i) (take n (set xs i blank)) ≡ take k ys ++ drop i (take n xs)
  moved-next xs ys n i k blank r below within room read =
      ap (λ l. l ++ drop (suc i) (take n (set xs i blank))) (take_more_set ys k r room)
      ∙ append_assoc (take k ys) (r ∷ []) (drop (suc i) (take n (set xs i blank)))
      ∙ ap (λ l. take k ys ++ l) (rest xs n i below within read)
    where
      rest : (xs : List X) (n i : ℕ) → i < n → i < length xs → r ≡ get_or xs i r → r ∷ drop (suc i) (take n (set xs i blank)) ≡ drop i (take n xs)
      rest [] n i below within read = absurd (omega (arith, within))
      rest (x ∷ xs) zero i below within read = absurd (omega (arith, below))
      rest (x ∷ xs) (suc n) zero below within read = ap (λ y. y ∷ take n xs) read
      rest (x ∷ xs) (suc n) (suc i) below within read = rest xs n i (omega (arith, below)) (omega (arith, within)) read

  -- a removal is over: what was carried is at the index, and the others are what is left
  pub removed-there : (xs old : List X) (n i : ℕ) (c : X) → n ≤ length xs → i ≤ n → insert (take n xs) i c ≡ old → slice_get old i ≡ Some c
  removed-there xs old n i c within below all =
      ap (λ l. slice_get l i) (sym all) ∙ slice_get-insert (take n xs) i c (omega (arith, length-take-le n xs within, below))

  pub removed-others : (xs old : List X) (n i : ℕ) (c : X) → n ≤ length xs → i ≤ n → insert (take n xs) i c ≡ old → take n xs ≡ remove old i
  removed-others xs old n i c within below all =
      sym (remove-insert (take n xs) i c (omega (arith, length-take-le n xs within, below))) ∙ ap (λ l. remove l i) all
