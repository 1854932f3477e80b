-- Nodes that represent a list are there, and addresses that have a place are valid.
use Rattle.btree_laws.proofs.Common.{◌≡◌, ℕ, zero, suc, inl, inr, List, map, Option, Some, None, refl, sym, subst, arith, View, NodeMap, leaf, internal, item_in, IsEnd, IsPlace, IsPlaceOf, IsValid, IsWithin, Represents}
use Rattle.btree_laws.proofs.Places.Words.{item-within}

module _ {A : Type 0} (node_at : NodeMap A) where
  -- a node that represents a list is there
  pub represents-node : (h : ℕ) (p : Option ℕ) (id : ℕ) (ys : List A) → Represents node_at h p id ys → (v : View A) × (node_at id ≡ Some v)
  represents-node zero p id ys s = (leaf p ys, s)
  represents-node (suc h) p id ys s = (internal p s.0 (map {B = A × ℕ} (λ r. (r.0, r.1)) s.2), s.3)

  -- an address that has a place is valid
  pub place-valid : (root : Option ℕ) (xs : List A) (id : ℕ) (offset : Option ℕ) (place : ℕ) → IsPlace node_at root xs id offset place
      → IsValid node_at root id offset
  place-valid None xs id offset place at = inr at.0
  place-valid (Some root) xs id None place at =
      let s = at.1.subtree in
      let v = represents-node s.height s.parent id at.0 s.represents in
      inl (subst (λ o. IsWithin node_at o None) (sym v.1) tt)
  place-valid (Some root) xs id (Some offset) place at = elim at [
    | inl there ↦ inl (by (item_in (node_at id) offset) refl there)
    | inr end ↦ inl (past (node_at id) end.0)
  ]
    where
      by : (o : Option A) → item_in (node_at id) offset ≡ o → IsPlaceOf node_at xs o place → IsWithin node_at (node_at id) (Some offset)
      by None e there = absurd there
      by (Some x) e there = item-within node_at offset x (node_at id) e

      past : (o : Option (View A)) → IsEnd node_at o offset → IsWithin node_at o (Some offset)
      past None end = absurd end
      past (Some v) end = omega arith
