-- Trees of one leaf.
use Rattle.btree_laws.proofs.Common.{◌≡◌, ◌≢◌, ℕ, ◌<◌, ◌≤◌, List, [], ◌∷◌, length, Some, None, arith, inl, inr, refl, sym, ap, subst, cases_eq, nat_tests, View, item_in, leaf, NodeMap, size_of, most_of, times_listed, IsPlace, IsPlaceOf, times_used, least_of, IsSized, IsRooted}

-- the only node is a leaf with these items and no parent
pub record IsOneLeaf {A : Type 0} (node_at : NodeMap A) (root : ℕ) (xs : List A) : Type 0 where
  pub here : node_at root ≡ Some (leaf None xs)
  pub alone : (n : ℕ) → n ≢ root → node_at n ≡ None

module _ {A : Type 0} (node_at : NodeMap A) (root : ℕ) (xs : List A) where
  -- its number is the only one that is used
  pub once_here : (n : ℕ) → IsOneLeaf node_at root xs → times_listed n (root ∷ []) ≡ times_used (node_at n)
  once_here n one = elim (cases_eq n root) [
    | inl same ↦ rw (same, one.here) (grind (arith, nat_tests))
    | inr differs ↦ rw (one.alone n differs) (grind (arith, nat_tests))
  ]

  sized_here : IsOneLeaf node_at root xs → 0 < length xs → length xs ≤ 8 → (id : ℕ) (node : View A) → node_at id ≡ Some node → (least_of root id ≤ size_of node) × (size_of node ≤ most_of node)
  sized_here one some few id node at = elim (cases_eq id root) [
    | inl same ↦
        let e : leaf None xs ≡ node = let h = one.here in cc in
        rw (← e, same) (grind (arith, nat_tests), few)
    | inr differs ↦ let h = one.alone id differs in absurd (cc)
  ]

  pub rooted-one_leaf : IsOneLeaf node_at root xs → 0 < length xs → length xs ≤ 8 → IsRooted (IsSized root) node_at root xs
  rooted-one_leaf one some few = record {
    height = 0;
    represents = one.here;
    sized = sized_here one some few;
    once = λ n. once_here n one;
  }

module _ {A : Type 0} (node_at : NodeMap A) (root : ℕ) (x : A) where
  -- the only item of a tree has the place 0
  pub only-place : IsOneLeaf node_at root (x ∷ []) → IsPlace node_at (Some root) (x ∷ []) root (Some 0) 0
  only-place one = inl (subst (λ o. IsPlaceOf node_at (x ∷ []) o 0) (sym (ap (λ v. item_in v 0) one.here)) refl)
