-- Whether a node is full, lists by index, and the items and branches of a node so.
use Rattle.btree_node.proofs.Common.{◌≡◌, ℕ, Option, Some, None, refl, sym, ap, subst, ◌∙◌, arith, slice_get}
use Rattle.std.proofs.Common.{◌≤◌, IsTrue, leb, zero, suc, ◌+◌, List, [], ◌∷◌, ◌-◌, drop, length, map}
use Rattle.std.proofs.lemmas.Bool.Decides.{nat_tests}
use Rattle.std.proofs.lemmas.List.{drop_more}
use Rattle.std.proofs.lemmas.Option.{slice_get_within, get_or_from_slice_get, slice_get-map}
use Rattle.std.specs.Prelude.{OnSome}
use Rattle.std.specs.Option.{option_map}
use Rattle.btree_item.specs.declared.item.Item.{Item}
use Rattle.btree_internal.specs.declared.internal.Branch.{Branch}
use Rattle.btree_internal.specs.Internal.{branch_pair}

-- a test of the number of items
pub at_least : (most count size : ℕ) → count ≡ size → (IsTrue (leb most count) → most ≤ size) × (most ≤ size → IsTrue (leb most count))
at_least most count size counted =
    ((λ t. let q : most ≤ count = grind (arith, nat_tests) in omega arith), (λ low. let q : most ≤ count = omega arith in grind (arith, nat_tests)))

-- the rest of a list from an index on begins with the element there
pub drop-next : {X : Type 0} (xs : List X) (i : ℕ) (x : X) → slice_get xs i ≡ Some x → drop i xs ≡ x ∷ drop (i + 1) xs
drop-next xs i x at = drop_more xs i x (slice_get_within xs i x at) ∙ ap (λ y. y ∷ drop (i + 1) xs) (get_or_from_slice_get xs i x x at)

-- past the end of a list nothing is left
pub drop-none : {X : Type 0} (xs : List X) (i : ℕ) → slice_get xs i ≡ None → drop i xs ≡ []
drop-none [] zero none = refl
drop-none [] (suc i) none = refl
drop-none (x ∷ xs) zero none = absurd (cc)
drop-none (x ∷ xs) (suc i) none = drop-none xs i none

-- a list without a last element is empty
pub none-last : {X : Type 0} (xs : List X) → None ≡ slice_get xs (length xs - 1) → xs ≡ []
none-last [] e = refl
none-last (y ∷ []) e = absurd (cc)
none-last (y ∷ z ∷ zs) e =
    let less : length (y ∷ z ∷ zs) - 1 ≡ suc (length (z ∷ zs) - 1) = omega arith in
    let at : None ≡ slice_get (y ∷ z ∷ zs) (suc (length (z ∷ zs) - 1)) = subst (λ n. None ≡ slice_get (y ∷ z ∷ zs) n) less e in
    let none : z ∷ zs ≡ [] = none-last (z ∷ zs) at in
    absurd (cc)

pub on-some : {X : Type 0} (r : Option X) (P : Type 0) → P → OnSome r P
on-some None P p = tt
on-some (Some x) P p = p

module _ {K V : Type 0} (bs : List (Branch K V)) (row : List (Item K V × ℕ)) (are : map branch_pair bs ≡ row) (i : ℕ) where
  as-pair : (o : Option (Branch K V)) → o ≡ slice_get bs i → slice_get row i ≡ option_map branch_pair o
  as-pair o at = ap (λ l. slice_get l i) (sym are) ∙ slice_get-map branch_pair bs i ∙ ap (option_map branch_pair) (sym at)

  pub drop-at_branch : (b : Branch K V) → Some b ≡ slice_get bs i → drop i row ≡ (b.item, b.child) ∷ drop (i + 1) row
  drop-at_branch b at = drop-next row i (b.item, b.child) (as-pair (Some b) at)

  pub drop-no_branch : None ≡ slice_get bs i → drop i row ≡ []
  drop-no_branch at = drop-none row i (as-pair None at)
