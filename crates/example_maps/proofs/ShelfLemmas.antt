-- The pairs of a part are between two places, and its shelves are listed from the front.
use Rattle.std.proofs.Common.{◌≡◌, ◌∙◌, ℕ, not, ◌&&◌, List, [], ◌∷◌, ◌++◌, filter, refl, sym, ap, append_assoc, append-nil}
use Rattle.std.specs.Map.{values_of}
use Rattle.std.specs.Ordering.{is_eq, is_lt}
use Rattle.std.specs.declared.cmp.Ordering.{Ordering}
use Rattle.std.specs.declared.cmp.Ordering.TheVariants.{Less, Equal, Greater}
use Rattle.btree_slab.specs.KeyLaws.{side_after, side_before}
use Rattle.example_maps.specs.Shelves.{shelves_of}

-- what is neither before nor after all pairs of a part is of the part
of-part : (o : Ordering) → (not (is_lt (side_before o)) && is_lt (side_after o)) ≡ is_eq o
of-part Less = refl
of-part Equal = refl
of-part Greater = refl

-- the shelves between the two places are those of the part
pub range-shelves : {K : Type 0} (cmp : K → K → Ordering) (part : K) (pairs : List (K × ℕ))
    → values_of (filter (λ (pair : K × ℕ). not (is_lt (side_before (cmp pair.0 part))) && is_lt (side_after (cmp pair.0 part))) pairs) ≡ shelves_of cmp part pairs
range-shelves {K} cmp part pairs = λ i. values_of (filter (λ (pair : K × ℕ). of-part (cmp pair.0 part) i) pairs)

-- shelves that were found, with those that are left
module _ {K : Type 0} (found target : List ℕ) (rest : List (K × ℕ)) (so_far : found ++ values_of rest ≡ target) where
  -- nothing is left
  pub shelves-end : rest ≡ [] → found ≡ target
  shelves-end none = sym (append-nil found) ∙ sym (ap (λ l. found ++ values_of l) none) ∙ so_far

  -- one more is found
  pub shelves-grow : (pair : K × ℕ) (left : List (K × ℕ)) → rest ≡ pair ∷ left → (found ++ pair.1 ∷ []) ++ values_of left ≡ target
  shelves-grow pair left first =
      append_assoc found (pair.1 ∷ []) (values_of left) ∙ sym (ap (λ l. found ++ values_of l) first) ∙ so_far
