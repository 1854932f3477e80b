-- An address of a well formed tree, or of one that is off by one at a node, has one place.
use Rattle.btree_laws.proofs.Common.{◌≡◌, ◌⊎◌, ℕ, zero, suc, ◌<◌, ◌≤◌, List, [], ◌∷◌, length, Option, Some, None, refl, sym, ap, ◌∙◌, inl, inr, arith, length-append, flat_map, IsTotalOrder, Ordering, cases_eq, nat_tests, View, leaf, NodeMap, size_of, Represents, least_of, IsWellFormed, IsOffByOne, IsPlace}
use Rattle.btree_laws.specs.WellFormed.{least_allowed}
use Rattle.btree_laws.specs.Place.{IsSubtree}
use Rattle.btree_laws.proofs.Places.SamePlace.{same_subtree, same_place}

none_or_some : {X : Type 0} (ys : List X) → (0 < length ys) ⊎ (ys ≡ [])
none_or_some [] = inr refl
none_or_some (y ∷ ys) = inl (omega arith)

module _ {A : Type 0} (node_at : NodeMap A) (root i : ℕ) (xs : List A) (top : IsSubtree node_at root xs)
    (sized : (id : ℕ) (node : View A) → node_at id ≡ Some node → least_allowed root i id ≤ size_of node) where
  pub filled : (h : ℕ) (p : Option ℕ) (id : ℕ) (ys : List A) → Represents node_at h p id ys → (0 < length ys) ⊎ (xs ≡ [])
  filled zero p id ys s = elim (none_or_some ys) [
    | inl some ↦ inl some
    | inr none ↦ elim (cases_eq id root) [
      | inl same ↦ inr (same_subtree node_at root xs ys top (record { height = 0; parent = p; represents = rw (← same) s }) ∙ none)
      | inr differs ↦
          let many = sized id (leaf p ys) s in
          let n = ap length none in
          absurd (grind (arith, nat_tests))
    ]
  ]
  filled (suc h) p id ys s = elim (filled h (Some id) s.0 s.1 s.4) [
    | inl some ↦ let n = ap length s.6 in inl (omega (arith, length-append s.1 (flat_map (λ (r : A × ℕ × List A). r.0 ∷ r.2) s.2)))
    | inr none ↦ inr none
  ]

module _ {K V : Type 0} (cmp : K → K → Ordering) (o : IsTotalOrder cmp) (node_at : NodeMap (K × V)) (root i : ℕ) (xs : List (K × V)) (w : IsOffByOne cmp node_at root i xs) where
  pub one_place : (id : ℕ) (offset : Option ℕ) (p q : ℕ) → IsPlace node_at (Some root) xs id offset p → IsPlace node_at (Some root) xs id offset q → p ≡ q
  one_place id offset p q s t =
      same_place cmp o node_at xs w.ascends
      (λ id ys u. filled node_at root i xs (record { height = w.rooted.height; parent = None; represents = w.rooted.represents }) (λ id node e. (w.rooted.sized id node e).0) u.height u.parent id ys u.represents)
      (Some root) id offset p q s t

fewer : (root id n : ℕ) → least_of root id ≤ n → least_allowed root root id ≤ n
fewer root id n h = elim (cases_eq id root) [ inl same ↦ grind (arith, nat_tests) | inr differs ↦ grind (arith, nat_tests) ]

module _ {K V : Type 0} (cmp : K → K → Ordering) (o : IsTotalOrder cmp) (node_at : NodeMap (K × V)) (xs : List (K × V)) (len : ℕ) where
  -- in a well formed tree an address has one place
  pub one_place-well : (root : Option ℕ) → IsWellFormed cmp node_at root len xs → (id : ℕ) (offset : Option ℕ) (p q : ℕ) → IsPlace node_at root xs id offset p → IsPlace node_at root xs id offset q → p ≡ q
  one_place-well None w id offset p q s t = s.1 ∙ sym t.1
  one_place-well (Some root) w id offset p q s t =
      same_place cmp o node_at xs w.ascends
      (λ id ys u. filled node_at root root xs (record { height = w.formed.height; parent = None; represents = w.formed.represents }) (λ id node e. fewer root id (size_of node) (w.formed.sized id node e).0) u.height u.parent id ys u.represents)
      (Some root) id offset p q s t
