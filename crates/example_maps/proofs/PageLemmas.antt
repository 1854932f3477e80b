-- A page of a list that is filled from the front.
use Rattle.std.proofs.Common.{◌≡◌, ◌∙◌, ℕ, zero, suc, ◌-◌, ◌<◌, List, [], ◌∷◌, ◌++◌, take, refl, sym, ap, arith, append_assoc, append-nil}
use Rattle.std.specs.Map.{keys_of}

take-none : {A : Type 0} (n : ℕ) → take {A = A} n [] ≡ []
take-none zero = refl
take-none (suc n) = refl

module _ {K V : Type 0} (items target : List K) (left : ℕ) (xs : List (K × V)) (held : items ++ take left (keys_of xs) ≡ target) where
  -- nothing is left in the list
  pub page-ends : xs ≡ [] → items ≡ target
  page-ends none = sym (append-nil items) ∙ sym (ap (λ l. items ++ l) (ap (λ l. take left (keys_of l)) none ∙ take-none left)) ∙ held

  -- the page is full
  pub page-full : left ≡ 0 → items ≡ target
  page-full none = sym (append-nil items) ∙ sym (ap (λ n. items ++ take n (keys_of xs)) none) ∙ held

  -- one more is on the page
  pub page-grows : 0 < left → (k : K) (v : V) (rest : List (K × V)) → xs ≡ (k, v) ∷ rest → (items ++ k ∷ []) ++ take (left - 1) (keys_of rest) ≡ target
  page-grows some k v rest first =
      let one : left ≡ suc (left - 1) = omega arith in
      append_assoc items (k ∷ []) (take (left - 1) (keys_of rest))
      ∙ sym (ap (λ l. items ++ l) (ap (λ l. take left (keys_of l)) first ∙ ap (λ n. take n (k ∷ keys_of rest)) one))
      ∙ held
