-- The walks of navigation, step by step: down to an end leaf, and up to an item.
use Rattle.btree_find.proofs.Common.{◌≡◌, ◌==◌, ◌<◌, ◌≤◌, ◌∙◌, ◌^◌, ◌-◌, ℕ, inl, inr, List, length, Option, Some, None, refl, sym, ap, subst, arith, option_map, slice_get, IsTotalOrder, position, Ordering, Address, Node, view_of, NodeMap, View, leaf, internal, children_in, children_of, items_of, item_in, parent_of, size_of, address_at, address_before, levels_below, levels_above, IsOccupied, TreeState, IsBTree, IsPlaceIn, IsUsed, node_map, pairs_of, child-places, used-one, used-view, BeginsInLeaf, IsItemAt, LeadsToItem}
use Rattle.std.proofs.Common.{◌≢◌}
use Rattle.std.proofs.lemmas.List.{length-map}
use Rattle.std.specs.FinMap as finite
use Rattle.btree_item.specs.Offset.{index_offset}
use Rattle.btree_laws.specs.Addresses.{first_leaf}
use Rattle.btree_laws.specs.Place.{IsLeaf}
use Rattle.btree_laws.proofs.AddressLists.LeafEnds.{first-leaf-down, first-leaf-self}
use Rattle.btree_laws.proofs.Places.ChildPlaces.{up-from-end, down-to-first}
use Rattle.btree_laws.proofs.Places.HasPlace.{low_or_end}
use Rattle.btree_laws.proofs.Places.InNode.{leaf-first, root-end}
use Rattle.btree_find.proofs.ParentLemmas.{child-there}
use Rattle.btree_find.proofs.PlaceLemmas.{in-state, in-tree, item-here, no-item, placed, root-there, some-items}

-- a leaf has no first child
pub leaf-by-none : {A : Type 0} (v : View A) → slice_get (children_of v) 0 ≡ None → (parent : Option ℕ) × (items : List A) × (v ≡ leaf parent items)
leaf-by-none (leaf parent items) e = (parent, items, refl)
leaf-by-none (internal parent first branches) e = absurd (cc)

-- the first child of an internal node
internal-first : {A : Type 0} (v : View A) (child : ℕ) → Some child ≡ slice_get (children_of v) 0
    → (parent : Option ℕ) × (branches : List (A × ℕ)) × (v ≡ internal parent child branches)
internal-first (leaf parent items) child e = absurd (cc)
internal-first (internal parent first branches) child e =
    let same : first ≡ child = cc in
    (parent, branches, ap (λ n. internal parent n branches) same)

pub leaf-focus : {A : Type 0} (node_at : NodeMap A) (v : Option (View A)) → IsLeaf node_at v → (parent : Option ℕ) × (items : List A) × (v ≡ Some (leaf parent items))
leaf-focus node_at None l = absurd l
leaf-focus node_at (Some (leaf parent items)) l = (parent, items, refl)
leaf-focus node_at (Some (internal parent first branches)) l = absurd l

-- a node with a child is no leaf
pub not-leaf : {A : Type 0} (node_at : NodeMap A) (v : Option (View A)) (index child : ℕ) → slice_get (children_in v) index ≡ Some child
    → IsLeaf node_at v → ⊥
not-leaf node_at None index child e l = l
not-leaf node_at (Some (leaf parent items)) index child e l = absurd (cc)
not-leaf node_at (Some (internal parent first branches)) index child e l = l

-- the address of an offset that was made from a number
pub address-is : (a : Address) (id n : ℕ) (o : Option ℕ) → n < 2 ^ 64 - 1 → o ≡ index_offset n → a ≡ record { id = id; offset = o } → a ≡ address_at id n
address-is a id n o low e same =
    let ne : n ≢ 2 ^ 64 - 1 = λ e. omega arith in
    let is : index_offset n ≡ Some n = grind arith in
    same ∙ ap (λ (t : Option ℕ). record { id = id; offset = t }) (e ∙ is)

pub children-few : {A : Type 0} (v : View A) (index : ℕ) → index < length (children_of v) → index ≤ size_of v
children-few (leaf parent items) index low = absurd (omega arith)
children-few {A} (internal parent first bs) index low =
    let a = length-map {A = A × ℕ} {B = A} bs (λ b. b.0) in
    let b = length-map {A = A × ℕ} {B = ℕ} bs (λ b. b.1) in
    omega arith

-- an item stands at an offset below the number of items
pub occupied-below : {A : Type 0} (node_at : NodeMap A) (id offset : ℕ) (v : View A) → node_at id ≡ Some v → offset < size_of v
    → IsOccupied node_at id (Some offset)
occupied-below node_at id offset v e low = elim (low_or_end (items_of v) offset (omega arith)) [
  | inl at ↦ (at.0, ap (λ w. item_in w offset) e ∙ at.1)
  | inr end ↦ absurd (omega arith)
]

module _ {K V : Type 0} (s : TreeState K V) where
  -- from a node down to the leftmost leaf
  pub record Descends (start id : ℕ) : Type 0 where
    pub used : IsUsed s id
    pub leads : (place : ℕ) → IsPlaceIn s (address_before start) place → IsPlaceIn s (address_before id) place
    pub same : IsLeaf (node_map s) (node_map s start) → id ≡ start
    pub first : first_leaf (node_map s) (finite.len s.nodes) start ≡ first_leaf (node_map s) (finite.len s.nodes) id

  -- from an offset of a node up to an item
  pub record Climbs (start start_offset id offset : ℕ) (node : Node K V) : Type 0 where
    pub here : finite.get s.nodes id ≡ Some node
    pub within : offset ≤ size_of (view_of node)
    pub leads : (place : ℕ) → IsPlaceIn s (address_at start start_offset) place → IsPlaceIn s (address_at id offset) place

module _ {K V : Type 0} (cmp : K → K → Ordering) (laws : IsTotalOrder cmp) (s : TreeState K V) (tree : IsBTree cmp s) where
  abbrev levels : ℕ
  levels = finite.len s.nodes

  pub used-of : (id : ℕ) (v : View (K × V)) → node_map s id ≡ Some v → IsUsed s id
  used-of id v e = used-view s.nodes id (let u = used-one (node_map s id) v e in omega arith)

  module _ (start id : ℕ) (d : Descends s start id) (node : Node K V) (at : finite.get s.nodes id ≡ Some node) where
    here : node_map s id ≡ Some (view_of node)
    here = ap (option_map view_of) at

    module _ (child : ℕ) (first : Some child ≡ slice_get (children_of (view_of node)) 0) where
      first-child : slice_get (children_in (node_map s id)) 0 ≡ Some child
      first-child = ap (λ v. slice_get (children_in v) 0) here ∙ sym first

      pub descend-next : Descends s start child
      descend-next =
          let r = root-there cmp laws s tree id (view_of node) here in
          let p = placed cmp laws s tree r.0 r.1 in
          let c = child-places (node_map s) levels r.0 (pairs_of s) p id 0 child first-child in
          record {
            used = used-of child c.node c.here;
            leads = λ place i.
                in-state cmp laws s tree r.0 r.1 child None place
                (down-to-first (node_map s) levels r.0 (pairs_of s) p id 0 child first-child refl place
                (in-tree cmp laws s tree r.0 r.1 id None place (d.leads place i)));
            same = λ l. absurd (not-leaf (node_map s) (node_map s start) 0 child
                (subst (λ n. slice_get (children_in (node_map s n)) 0 ≡ Some child) (d.same l) first-child) l);
            first =
                let n = internal-first (view_of node) child first in
                d.first ∙ first-leaf-down (node_map s) levels r.0 (pairs_of s) p id n.0 child n.1 (here ∙ ap Some n.2);
          }

      pub descend-smaller : levels_below (node_map s) levels child < levels_below (node_map s) levels id
      descend-smaller =
          let r = root-there cmp laws s tree id (view_of node) here in
          let p = placed cmp laws s tree r.0 r.1 in
          (child-places (node_map s) levels r.0 (pairs_of s) p id 0 child first-child).lower

    pub descend-end : None ≡ slice_get (children_of (view_of node)) 0 → BeginsInLeaf s start id
    descend-end none =
        let l = leaf-by-none (view_of node) (sym none) in
        let r = root-there cmp laws s tree id (view_of node) here in
        let p = placed cmp laws s tree r.0 r.1 in
        record {
          first = sym (d.first ∙ first-leaf-self (node_map s) levels r.0 (pairs_of s) p id l.0 l.1 (here ∙ ap Some l.2));
          is_leaf = rw (here, l.2) tt;
          begins = d.leads;
          same = d.same;
        }

  -- the first item of the leftmost leaf
  pub begins-item : (id first : ℕ) → BeginsInLeaf s id first → (a : Address) → a ≡ address_at first 0 → LeadsToItem s (address_before id) (Some a)
  begins-item id first b a same place i =
      let l = leaf-focus (node_map s) (node_map s first) b.is_leaf in
      let r = root-there cmp laws s tree first (leaf l.0 l.1) l.2 in
      let p = placed cmp laws s tree r.0 r.1 in
      let at = leaf-first (node_map s) levels r.0 (pairs_of s) p first l.0 l.1 l.2 place (in-tree cmp laws s tree r.0 r.1 first None place (b.begins place i)) in
      let some = some-items cmp laws s tree r.0 r.1 first (leaf l.0 l.1) l.2 in
      subst (λ z. IsItemAt s place (Some z)) (sym same)
      (item-here cmp laws s tree (address_at first 0) place (occupied-below (node_map s) first 0 (leaf l.0 l.1) l.2 some)
      (in-state cmp laws s tree r.0 r.1 first (Some 0) place at))

  module _ (start start_offset id offset : ℕ) (node : Node K V) (d : Climbs s start start_offset id offset node) where
    focus : node_map s id ≡ Some (view_of node)
    focus = ap (option_map view_of) d.here

    pub climb-item : offset < size_of (view_of node) → (a : Address) → a ≡ address_at id offset
        → LeadsToItem s (address_at start start_offset) (Some a)
    climb-item low a same place i =
        subst (λ z. IsItemAt s place (Some z)) (sym same)
        (item-here cmp laws s tree (address_at id offset) place (occupied-below (node_map s) id offset (view_of node) focus low) (d.leads place i))

    module _ (end : size_of (view_of node) ≤ offset) where
      at-end : offset ≡ size_of (view_of node)
      at-end = let w = d.within in omega arith

      end-place : (root : ℕ) (is : s.root ≡ Some root) (place : ℕ) → IsPlaceIn s (address_at start start_offset) place
          → IsPlaceIn s (address_at id (size_of (view_of node))) place
      end-place root is place i = subst (λ o. IsPlaceIn s (address_at id o) place) at-end (d.leads place i)

      pub climb-none : parent_of (view_of node) ≡ None → LeadsToItem s (address_at start start_offset) None
      climb-none none place i =
          let r = root-there cmp laws s tree id (view_of node) focus in
          let p = placed cmp laws s tree r.0 r.1 in
          let e = root-end (node_map s) levels r.0 (pairs_of s) p id (view_of node) focus none place
          (in-tree cmp laws s tree r.0 r.1 id (Some (size_of (view_of node))) place (end-place r.0 r.1 place i)) in
          no-item cmp laws s tree place (omega arith)

      module _ (parent : ℕ) (up : parent_of (view_of node) ≡ Some parent) where
        module _ (above : Node K V) (at : finite.get s.nodes parent ≡ Some above) where
          module _ (o : Option ℕ) (is : o ≡ position (λ child. child == id) (children_of (view_of above))) where
            module _ (index : ℕ) (found : o ≡ Some index) where
              pub climb-next : index ≤ size_of (view_of above) → Climbs s start start_offset parent index above
              climb-next low =
                  let below = child-there cmp laws s tree id node d.here parent up above at o is index found in
                  let r = root-there cmp laws s tree id (view_of node) focus in
                  let p = placed cmp laws s tree r.0 r.1 in
                  record {
                    here = at;
                    within = low;
                    leads = λ place i.
                        in-state cmp laws s tree r.0 r.1 parent (Some index) place
                        (up-from-end (node_map s) levels r.0 (pairs_of s) p parent index id below (view_of node) focus place
                        (in-tree cmp laws s tree r.0 r.1 id (Some (size_of (view_of node))) place (end-place r.0 r.1 place i)));
                  }

              pub climb-smaller : levels_above (node_map s) levels parent < levels_above (node_map s) levels id
              climb-smaller =
                  let below = child-there cmp laws s tree id node d.here parent up above at o is index found in
                  let r = root-there cmp laws s tree id (view_of node) focus in
                  let p = placed cmp laws s tree r.0 r.1 in
                  (child-places (node_map s) levels r.0 (pairs_of s) p parent index id below).higher
