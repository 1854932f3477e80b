-- A list that is cut after its n-th element, and its front then loses its last; and lists appended to one another.
use Rattle.std.proofs.Common.{◌≡◌, ℕ, ◌-◌, ◌<◌, List, [], ◌∷◌, ◌++◌, Option, Some, length, take, drop, zero, suc, refl, sym, ◌∙◌, ap, arith, length-drop}
use Rattle.std.specs.Prelude.{slice_get, IsSome}
use Rattle.std.specs.List.{remove}
use Rattle.std.proofs.lemmas.List.{append_assoc, length-take-le}

module _ {T : Type 0} where
  take-shorter : (n : ℕ) (xs : List T) → take n (take (suc n) xs) ≡ take n xs
  take-shorter zero xs = refl
  take-shorter (suc n) [] = refl
  take-shorter (suc n) (x ∷ xs) = ap (λ l. x ∷ l) (take-shorter n xs)

  parts_at : (n : ℕ) (xs : List T) (x : T) → slice_get (take (suc n) xs) n ≡ Some x → xs ≡ take n xs ++ x ∷ drop (suc n) xs
  parts_at n [] x at = absurd (cc)
  parts_at zero (y ∷ ys) x at = ap (λ z. z ∷ ys) (cc)
  parts_at (suc n) (y ∷ ys) x at = ap (λ l. y ∷ l) (parts_at n ys x at)

  some_at : (n : ℕ) (xs : List T) → n < length xs → IsSome (slice_get (take (suc n) xs) n)
  some_at n [] within = absurd (omega arith)
  some_at zero (y ∷ ys) within = refl
  some_at (suc n) (y ∷ ys) within = some_at n ys (omega arith)

  last_place : (xs first : List T) (n : ℕ) → n < length xs → first ≡ take (suc n) xs → length first - 1 ≡ n
  last_place xs first n within is =
      let long = ap length is ∙ length-take-le (suc n) xs (omega arith) in
      omega (arith, long)

  pub last_is_there : (xs first : List T) (n : ℕ) (r : Option T) → n < length xs → first ≡ take (suc n) xs → r ≡ slice_get first (length first - 1) → IsSome r
  last_is_there xs first n r within is at =
      let last : slice_get first (length first - 1) ≡ slice_get (take (suc n) xs) n = ap (slice_get first) (last_place xs first n within is) ∙ ap (λ l. slice_get l n) is in
      rw (at, last) (some_at n xs within)

  module _ (xs tail first rest : List T) (n : ℕ) (x : T) (within : n < length xs) (tail_is : tail ≡ drop (suc n) xs) (first_is : first ≡ take (suc n) xs) (x_is : Some x ≡ slice_get first (length first - 1)) (rest_is : rest ≡ take (length first - 1) first) where
    rest_short : rest ≡ take n xs
    rest_short = rest_is ∙ ap (λ m. take m first) (last_place xs first n within first_is) ∙ ap (take n) first_is ∙ take-shorter n xs

    pub parts_of_split : xs ≡ rest ++ x ∷ tail
    parts_of_split =
        let at = sym (x_is ∙ ap (slice_get first) (last_place xs first n within first_is) ∙ ap (λ l. slice_get l n) first_is) in
        parts_at n xs x at ∙ ap (λ l. l ++ x ∷ drop (suc n) xs) (sym rest_short) ∙ ap (λ l. rest ++ x ∷ l) (sym tail_is)

    pub front_of_split : length rest ≡ n
    front_of_split = ap length rest_short ∙ length-take-le n xs (omega arith)

  pub back_of_split : (xs tail : List T) (n : ℕ) → tail ≡ drop (suc n) xs → length tail ≡ length xs - suc n
  back_of_split xs tail n is = ap length is ∙ length-drop (suc n) xs

  last_parts : (xs : List T) (n : ℕ) (x : T) → suc n ≡ length xs → slice_get xs n ≡ Some x → xs ≡ take n xs ++ x ∷ []
  last_parts [] n x long at = absurd (cc)
  last_parts (y ∷ []) zero x long at = ap (λ z. z ∷ []) (cc)
  last_parts (y ∷ z ∷ zs) zero x long at = absurd (omega (arith, long))
  last_parts (y ∷ ys) (suc n) x long at = ap (λ l. y ∷ l) (last_parts ys n x (omega (arith, long)) at)

  -- the last element is removed
  pub last_out : (xs rest : List T) (x : T) → Some x ≡ slice_get xs (length xs - 1) → rest ≡ take (length xs - 1) xs → xs ≡ rest ++ x ∷ []
  last_out [] rest x at is = absurd (cc)
  last_out (y ∷ ys) rest x at is =
      last_parts (y ∷ ys) (length (y ∷ ys) - 1) x (omega arith) (sym at) ∙ ap (λ l. l ++ x ∷ []) (sym is)

  -- a list without its last element is one with the element at the last index removed
  pub take-last : (xs : List T) (n : ℕ) → suc n ≡ length xs → take n xs ≡ remove xs n
  take-last [] n long = absurd (cc)
  take-last (y ∷ []) zero long = refl
  take-last (y ∷ z ∷ zs) zero long = absurd (omega (arith, long))
  take-last (y ∷ ys) (suc n) long = ap (λ l. y ∷ l) (take-last ys n (omega (arith, long)))

  -- one more element, and then another list
  pub joined_behind : (base more front all : List T) (x : T) → front ≡ base ++ x ∷ [] → all ≡ front ++ more → all ≡ base ++ x ∷ more
  joined_behind base more front all x front_is all_is =
      all_is ∙ ap (λ l. l ++ more) front_is ∙ append_assoc base (x ∷ []) more
