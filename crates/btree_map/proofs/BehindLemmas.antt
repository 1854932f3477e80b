-- The back address in a leaf behind the last pair of a map: the offset after the pair.
use Rattle.btree_find.proofs.Common.{◌≡◌, ◌<◌, ◌≤◌, ◌+◌, ◌∙◌, ℕ, zero, suc, inl, inr, length, Option, Some, None, refl, sym, ap, subst, arith, slice_get, slice_get_past, IsTotalOrder, Ordering, Address, leaf, size_of, address_at, IsPlace, IsWithin, HasAddresses, TreeState, IsBTree, IsOccupiedIn, IsPlaceIn, node_map, pairs_of, addresses-tree}
use Rattle.std.specs.FinMap as finite
use Rattle.btree_laws.specs.Place.{IsBack, IsLeaf}
use Rattle.btree_laws.specs.TreeAddresses.{item_addresses_of, leaf_backs_of}
use Rattle.btree_laws.proofs.Places.HasPlace.{low_or_end}
use Rattle.btree_laws.proofs.Places.InNode.{leaf-back}
use Rattle.btree_find.proofs.PlaceLemmas.{few-items, in-node, in-state, in-tree, not-empty, placed, root-there, some-items}
use Rattle.btree_find.proofs.WalkLemmas.{leaf-focus, occupied-below}

module _ {K V : Type 0} (cmp : K → K → Ordering) (laws : IsTotalOrder cmp) (s : TreeState K V) (tree : IsBTree cmp s) where
  addresses : HasAddresses s
  addresses = addresses-tree cmp laws s tree

  -- an item in a leaf, at an offset that a leaf can have, and the leaf's back address after it
  pub record IsBehind (a : Address) (n : ℕ) : Type 0 where
    pub few : n < 8
    pub listed : slice_get (leaf_backs_of s) (length (pairs_of s)) ≡ Some (address_at a.id (n + 1))

  -- the address of the last item
  module _ (a : Address) (place : ℕ) (last : suc place ≡ length (pairs_of s)) (occupied : IsOccupiedIn s a) (at : IsPlaceIn s a place) where
    -- the last back address in a leaf
    module _ (e : Address) (ends : slice_get (leaf_backs_of s) (length (pairs_of s)) ≡ Some e) (in_leaf : IsLeaf (node_map s) (node_map s e.id)) where
      behind-by : (o : Option ℕ) → e.offset ≡ o → IsBack (node_map s) o → (n : ℕ) → a.offset ≡ Some n → IsBehind a n
      behind-by None is back n offset = absurd back
      behind-by (Some zero) is back n offset =
          let l = leaf-focus (node_map s) (node_map s e.id) in_leaf in
          let r = root-there cmp laws s tree e.id (leaf l.0 l.1) l.2 in
          let some = some-items cmp laws s tree r.0 r.1 e.id (leaf l.0 l.1) l.2 in
          let right = addresses.leaf_backs.right (length (pairs_of s)) e ends in
          let here = subst (λ o. IsPlace (node_map s) s.root (pairs_of s) e.id o (length (pairs_of s))) is right.3 in
          let listed = addresses.items.each (length (pairs_of s)) (address_at e.id 0) (occupied-below (node_map s) e.id 0 (leaf l.0 l.1) l.2 some) here in
          let counted = addresses.items.counted in
          let past = slice_get_past (item_addresses_of s) (length (pairs_of s)) (omega arith) in
          absurd (cc)
      behind-by (Some (suc o)) is back n offset =
          let l = leaf-focus (node_map s) (node_map s e.id) in_leaf in
          let r = root-there cmp laws s tree e.id (leaf l.0 l.1) l.2 in
          let right = addresses.leaf_backs.right (length (pairs_of s)) e ends in
          let here = subst (λ o. IsPlace (node_map s) s.root (pairs_of s) e.id o (length (pairs_of s))) is right.3 in
          let w = in-node cmp laws s tree r.0 r.1 e right.0 in
          let there = w.1 in
          let found = l.2 in
          let same : w.0 ≡ leaf l.0 l.1 = cc in
          let within : suc o ≤ length l.1 = subst (λ v. suc o ≤ size_of v) same (subst (λ t. IsWithin (node_map s) (Some w.0) t) is w.2) in
          let few = few-items cmp laws s tree r.0 r.1 e.id (leaf l.0 l.1) l.2 in
          let b = leaf-back (node_map s) (finite.len s.nodes) r.0 (pairs_of s) (placed cmp laws s tree r.0 r.1) e.id l.0 l.1 l.2 o (omega arith) (length (pairs_of s))
          (in-tree cmp laws s tree r.0 r.1 e.id (Some (suc o)) (length (pairs_of s)) here) in
          let listed = addresses.items.each b.0 (address_at e.id o) (occupied-below (node_map s) e.id o (leaf l.0 l.1) l.2 (omega arith))
          (in-state cmp laws s tree r.0 r.1 e.id (Some o) b.0 b.2) in
          let one : b.0 ≡ place = omega (arith, b.1, last) in
          let item = addresses.items.each place a occupied at in
          let listed_here = subst (λ q. slice_get (item_addresses_of s) q ≡ Some (address_at e.id o)) one listed in
          let node : a.id ≡ e.id = cc in
          let before : n ≡ o = cc in
          record {
            few = omega arith;
            listed =
                let more : suc o ≡ n + 1 = omega arith in
                let end : e ≡ address_at e.id (suc o) = ap (λ (t : Option ℕ). record { id = e.id; offset = t }) is in
                ends ∙ ap Some (end ∙ ap (address_at e.id) more ∙ ap (λ k. address_at k (n + 1)) (sym node));
          }

    pub behind : (n : ℕ) → a.offset ≡ Some n → IsBehind a n
    behind n offset =
        let backs = addresses.leaf_backs in
        elim (low_or_end (leaf_backs_of s) (length (pairs_of s)) (let c = backs.counted in omega arith)) [
          | inl ends ↦ elim (backs.right (length (pairs_of s)) ends.0 ends.1).1 [
            | inl in_leaf ↦ behind-by ends.0 ends.1 in_leaf ends.0.offset refl (backs.right (length (pairs_of s)) ends.0 ends.1).2 n offset
            | inr nowhere ↦ absurd (not-empty cmp laws s tree a nowhere.0 occupied)
          ]
          | inr end ↦ let c = backs.counted in absurd (omega arith)
        ]
