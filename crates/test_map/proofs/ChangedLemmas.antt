-- A list of which the first elements are changed.
use Rattle.std.proofs.Common.{◌≡◌, ◌∙◌, ℕ, zero, suc, ◌+◌, List, [], ◌∷◌, Some, length, map, set, slice_get, refl, sym, ap, arith}
use Rattle.std.proofs.lemmas.Option.{same_Some}

module _ {X : Type 0} (f : X → X) where
  abbrev pub changed : ℕ → List X → List X
  changed zero xs = xs
  changed (suc n) [] = []
  changed (suc n) (x ∷ xs) = f x ∷ changed n xs

  pub changed-all : (xs : List X) → changed (length xs) xs ≡ map f xs
  changed-all [] = refl
  changed-all (x ∷ xs) = ap (λ l. f x ∷ l) (changed-all xs)

  step : (n : ℕ) (xs : List X) (x : X) → slice_get (changed n xs) n ≡ Some x → set (changed n xs) n (f x) ≡ changed (suc n) xs
  step zero [] x here = absurd (cc)
  step zero (y ∷ ys) x here = ap (λ z. f z ∷ ys) (sym (same_Some y x here))
  step (suc n) [] x here = absurd (cc)
  step (suc n) (y ∷ ys) x here = ap (λ l. f y ∷ l) (step n ys x here)

  pub changed-step : (n : ℕ) (xs : List X) (x : X) → slice_get (changed n xs) n ≡ Some x → set (changed n xs) n (f x) ≡ changed (n + 1) xs
  changed-step n xs x here = let one : suc n ≡ n + 1 = omega arith in step n xs x here ∙ ap (λ m. changed m xs) one
