-- A list that is filtered from a place on: the elements that were passed, and the rest.
use Rattle.std.proofs.Common.{◌≡◌, ◌∙◌, ℕ, Bool, true, cond, not, ◌==◌, List, [], ◌∷◌, ◌++◌, Some, None, drop, filter, slice_get, take, sym, ap, subst, append_assoc, ne_eqb}
use Rattle.std.proofs.lemmas.List.{take-append-drop}
use Rattle.std.proofs.lemmas.Option.{same_Some}
use Rattle.btree_slab.specs.FindLaws.{none-first}
use Rattle.example_maps.specs.Stock.{is_in_stock}

module _ {X : Type 0} (keep : X → Bool) (whole : List X) where
  -- those that were passed are the whole list, but for those that are kept of the rest
  abbrev pub Keeps : (passed left : List X) → Type 0
  Keeps passed left = passed ++ filter keep left ≡ whole

  module _ (passed left : List X) (x : X) (so_far : Keeps passed (x ∷ left)) where
    pub keeps-passed : keep x ≡ true → Keeps (passed ++ x ∷ []) left
    keeps-passed is =
        append_assoc passed (x ∷ []) (filter keep left)
        ∙ ap (λ b. passed ++ cond b (x ∷ filter keep left) (filter keep left)) (sym is)
        ∙ so_far

  -- at the end they are the whole list
  pub keeps-all : (n : ℕ) (xs : List X) → Keeps (take n xs) (drop n xs) → None ≡ slice_get (drop n xs) 0 → xs ≡ whole
  keeps-all n xs so_far none =
      let past = none-first (drop n xs) none in
      sym (take-append-drop n xs) ∙ ap (λ l. take n xs ++ l) past ∙ ap (λ l. take n xs ++ filter keep l) (sym past) ∙ so_far

some-left : (n : ℕ) → (n ≡ 0 → ⊥) → not (n == 0) ≡ true
some-left n some = ap not (ne_eqb n 0 some)

module _ {K : Type 0} where
  -- the first part that was left is in stock, and was passed
  module _ (whole passed left more rest : List (K × ℕ)) (x y : K × ℕ) (so_far : Keeps is_in_stock whole passed left) where
    pub keeps-in_stock : Some x ≡ slice_get left 0 → slice_get left 0 ≡ Some y → (x.1 ≡ 0 → ⊥) → more ≡ passed ++ y ∷ [] → left ≡ y ∷ rest
        → Keeps is_in_stock whole more rest
    keeps-in_stock first next some passes goes =
        let same = same_Some x y (first ∙ next) in
        rw passes (keeps-passed is_in_stock whole passed rest y (subst (λ l. Keeps is_in_stock whole passed l) goes so_far)
        (subst (λ (z : K × ℕ). is_in_stock z ≡ true) same (some-left x.1 some)))
