-- From an address to the next item, which has the address before it.
use Rattle.btree_find.proofs.Common.{◌≡◌, ◌<◌, ◌≤◌, ◌∙◌, ◌+◌, ℕ, suc, length, Option, Some, None, refl, sym, ap, subst, arith, option_map, slice_get, slice_get_past, IsTotalOrder, IfSome, Ordering, Address, Node, view_of, NodeMap, View, leaf, children_in, children_of, items_of, item_in, size_of, address_at, address_before, IsOccupied, TreeState, IsBTree, IsOccupiedIn, IsPlaceIn, IsUsed, IsValidIn, node_map, pairs_of, child-places, leaf-without, IsItemAt, IsNext, IsPrevious, LeadsToItem}
use Rattle.std.specs.FinMap as finite
use Rattle.btree_laws.proofs.Places.ChildPlaces.{down-from-item}
use Rattle.btree_laws.proofs.Places.InNode.{leaf-along}
use Rattle.btree_find.specs.Navigation.{LeadsToNext}
use Rattle.btree_find.proofs.PlaceLemmas.{empty-leads, not-empty, has-place, in-state, in-tree, item-here, place-there, placed, root-there}
use Rattle.btree_find.proofs.WalkLemmas.{occupied-below, used-of}

-- no item stands past the last one
pub not-past : {A : Type 0} (node_at : NodeMap A) (id offset : ℕ) (v : View A) → node_at id ≡ Some v → size_of v ≤ offset
    → IsOccupied node_at id (Some offset) → ⊥
not-past node_at id offset v e low o =
    let none = slice_get_past (items_of v) offset low in
    let some : slice_get (items_of v) offset ≡ Some o.0 = ap (λ w. item_in w offset) (sym e) ∙ o.1 in
    absurd (cc)

module _ {K V : Type 0} (cmp : K → K → Ordering) (laws : IsTotalOrder cmp) (s : TreeState K V) (tree : IsBTree cmp s) where
  module _ (id offset : ℕ) (node : Node K V) (at : finite.get s.nodes id ≡ Some node) where
    here : node_map s id ≡ Some (view_of node)
    here = ap (option_map view_of) at

    pub next-past : size_of (view_of node) ≤ offset → (found : Option Address) → LeadsToItem s (address_at id offset) found
        → LeadsToNext s (address_at id offset) found
    next-past low found leads place i =
        (λ o. absurd (not-past (node_map s) id offset (view_of node) here low o), λ none. leads place i)

    module _ (low : offset < size_of (view_of node)) where
      module _ (child : ℕ) (after : Some child ≡ slice_get (children_of (view_of node)) (offset + 1)) where
        after-child : slice_get (children_in (node_map s id)) (suc offset) ≡ Some child
        after-child =
            let n : suc offset ≡ offset + 1 = omega arith in
            ap (λ v. slice_get (children_in v) (suc offset)) here ∙ (ap (slice_get (children_of (view_of node))) n ∙ sym after)

        pub child-used : IsUsed s child
        child-used =
            let r = root-there cmp laws s tree id (view_of node) here in
            let c = child-places (node_map s) (finite.len s.nodes) r.0 (pairs_of s) (placed cmp laws s tree r.0 r.1) id (suc offset) child after-child in
            used-of cmp laws s tree child c.node c.here

        -- the item after an item of an internal node is the first one under the child after it
        pub next-below : (found : Option Address) → LeadsToItem s (address_before child) found → LeadsToNext s (address_at id offset) found
        next-below found leads place i =
            let r = root-there cmp laws s tree id (view_of node) here in
            let p = placed cmp laws s tree r.0 r.1 in
            let at = down-from-item (node_map s) (finite.len s.nodes) r.0 (pairs_of s) p id (suc offset) child after-child offset refl place
            (in-tree cmp laws s tree r.0 r.1 id (Some offset) place i) in (
              λ o. leads (suc place) (in-state cmp laws s tree r.0 r.1 child None (suc place) at),
              λ none. absurd (none (occupied-below (node_map s) id offset (view_of node) here low)),
            )

      pub next-along : None ≡ slice_get (children_of (view_of node)) (offset + 1) → (found : Option Address)
          → LeadsToItem s (address_at id (offset + 1)) found → LeadsToNext s (address_at id offset) found
      next-along without found leads place i =
          let l = leaf-without (view_of node) (offset + 1) (omega arith) (sym without) in
          let focus : node_map s id ≡ Some (leaf l.0 l.1) = here ∙ ap Some l.2 in
          let n : size_of (view_of node) ≡ length l.1 = ap size_of l.2 in
          let m : suc offset ≡ offset + 1 = omega arith in
          let r = root-there cmp laws s tree id (view_of node) here in
          let p = placed cmp laws s tree r.0 r.1 in
          let at = leaf-along (node_map s) (finite.len s.nodes) r.0 (pairs_of s) p id l.0 l.1 focus offset (omega arith) place
          (in-tree cmp laws s tree r.0 r.1 id (Some offset) place i) in (
            λ o. leads (suc place) (subst (λ z. IsPlaceIn s (address_at id z) (suc place)) m (in-state cmp laws s tree r.0 r.1 id (Some (suc offset)) (suc place) at)),
            λ none. absurd (none (occupied-below (node_map s) id offset (view_of node) here low)),
          )

  -- before the first item of a subtree no item stands
  pub next-before : (id : ℕ) (found : Option Address) → LeadsToItem s (address_before id) found → LeadsToNext s (address_before id) found
  next-before id found leads place i = (λ o. absurd o, λ none. leads place i)

  module _ (a : Address) (valid : IsValidIn s a) where
    back-from : (place : ℕ) → IsPlaceIn s a place → IsOccupiedIn s a → (found : Option Address) → IsItemAt s (suc place) found
        → IfSome found (λ b. IsPrevious s b (Some a))
    back-from place i o None item = tt
    back-from place i o (Some b) item =
        record { place = suc place; has = item.here.has; item = item-here cmp laws s tree a place o i }

    pub is-next : (found : Option Address) → LeadsToNext s a found → IsNext s a found
    is-next found leads =
        let r = place-there cmp laws s tree a valid in
        let item = leads r.0 r.1 in
        record {
          place = r.0;
          has = has-place cmp laws s tree a r.0 r.1;
          after = item.0;
          back = λ o. back-from r.0 r.1 o found (item.0 o);
          here = item.1;
        }

    -- the same from the offset that was read
    pub next-at : (offset : Option ℕ) → a.offset ≡ offset → (found : Option Address) → LeadsToNext s (record { id = a.id; offset = offset }) found
        → IsNext s a found
    next-at offset e found leads =
        is-next found (subst (λ t. LeadsToNext s (record { id = a.id; offset = t }) found) (sym e) leads)

    -- in the empty tree there is none
    pub next-empty : s.root ≡ None → IsNext s a None
    next-empty e =
        is-next None (λ place i. (λ o. absurd (empty-vacant o), λ none. empty-leads cmp laws s tree a valid e place i))
      where
        empty-vacant : IsOccupiedIn s a → ⊥
        empty-vacant o = not-empty cmp laws s tree a e o
