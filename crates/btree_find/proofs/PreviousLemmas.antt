-- From an address to the item before its place: down to the rightmost leaf, or up past the first children.
use Rattle.btree_find.proofs.Common.{◌≡◌, ◌==◌, ◌<◌, ◌≤◌, ◌∙◌, ℕ, suc, List, length, Option, Some, None, refl, sym, ap, subst, arith, option_map, slice_get, IsTotalOrder, position, Ordering, Address, Node, view_of, leaf, children_in, children_of, parent_of, size_of, address_at, address_before, levels_above, IsPlace, TreeState, IsBTree, IsPlaceIn, IsUsed, IsValidIn, node_map, pairs_of, child-places, EndsInLeaf, leaf-without, IsItemBefore, IsPrevious}
use Rattle.std.specs.FinMap as finite
use Rattle.btree_laws.proofs.Places.ChildPlaces.{down-to-end, up-from-first, up-to-item}
use Rattle.btree_laws.proofs.Places.InNode.{leaf-back, leaf-start, root-start}
use Rattle.btree_raw.proofs.LastLemmas.{size_at}
use Rattle.btree_find.specs.Navigation.{LeadsBefore}
use Rattle.btree_find.proofs.ParentLemmas.{child-there}
use Rattle.btree_find.proofs.PlaceLemmas.{empty-place, few-items, has-place, in-state, in-tree, item-here, place-there, placed, root-there, some-items}
use Rattle.btree_find.proofs.WalkLemmas.{leaf-focus, occupied-below, used-of}

module _ {K V : Type 0} (s : TreeState K V) where
  -- from before a node up past the first children
  pub record ClimbsBefore (start id : ℕ) (node : Node K V) : Type 0 where
    pub here : finite.get s.nodes id ≡ Some node
    pub leads : (place : ℕ) → IsPlaceIn s (address_before start) place → IsPlaceIn s (address_before id) place

module _ {K V : Type 0} (cmp : K → K → Ordering) (laws : IsTotalOrder cmp) (s : TreeState K V) (tree : IsBTree cmp s) where
  abbrev levels : ℕ
  levels = finite.len s.nodes

  -- the last item of the rightmost leaf
  module _ (id : ℕ) (last : ℕ × ℕ) (e : EndsInLeaf s id last) where
    leaf-of : (parent : Option ℕ) × (items : List (K × V)) × (node_map s last.0 ≡ Some (leaf parent items))
    leaf-of = leaf-focus (node_map s) (node_map s last.0) e.is_leaf

    count-is : length (leaf-of.1) ≡ last.1
    count-is =
        let l = leaf-of in
        let f : size_at s last.0 ≡ Some (length l.1) = ap (option_map size_of) l.2 in
        let g = e.count in
        cc

    pub some-last : 0 < last.1
    some-last =
        let l = leaf-of in
        let r = root-there cmp laws s tree last.0 (leaf l.0 l.1) l.2 in
        omega (arith, some-items cmp laws s tree r.0 r.1 last.0 (leaf l.0 l.1) l.2, count-is)

    pub few-last : last.1 ≤ 8
    few-last =
        let l = leaf-of in
        let r = root-there cmp laws s tree last.0 (leaf l.0 l.1) l.2 in
        omega (arith, few-items cmp laws s tree r.0 r.1 last.0 (leaf l.0 l.1) l.2, count-is)

    last-before : (o : ℕ) → last.1 ≡ suc o → (place : ℕ) → IsPlaceIn s (address_at last.0 last.1) place
        → IsItemBefore s place (Some (address_at last.0 o))
    last-before o more place i =
        let l = leaf-of in
        let n = count-is in
        let low : o < length l.1 = omega arith in
        let r = root-there cmp laws s tree last.0 (leaf l.0 l.1) l.2 in
        let p = placed cmp laws s tree r.0 r.1 in
        let i2 = subst (λ k. IsPlaceIn s (address_at last.0 k) place) more i in
        let b = leaf-back (node_map s) levels r.0 (pairs_of s) p last.0 l.0 l.1 l.2 o low place
        (in-tree cmp laws s tree r.0 r.1 last.0 (Some (suc o)) place i2) in
        subst (λ k. IsItemBefore s k (Some (address_at last.0 o))) (sym b.1)
        (item-here cmp laws s tree (address_at last.0 o) b.0 (occupied-below (node_map s) last.0 o (leaf l.0 l.1) l.2 low)
        (in-state cmp laws s tree r.0 r.1 last.0 (Some o) b.0 b.2))

    pub ends-before : (size : ℕ) → size_at s id ≡ Some size → (a : Address) (o : ℕ) → last.1 ≡ suc o → a ≡ address_at last.0 o
        → LeadsBefore s (address_at id size) (Some a)
    ends-before size sized a o more same place i =
        subst (λ z. IsItemBefore s place (Some z)) (sym same) (last-before o more place (e.ends place size sized i))

  module _ (id offset : ℕ) (node : Node K V) (at : finite.get s.nodes id ≡ Some node) where
    focus : node_map s id ≡ Some (view_of node)
    focus = ap (option_map view_of) at

    module _ (child : ℕ) (below : Some child ≡ slice_get (children_of (view_of node)) offset) where
      child-below : slice_get (children_in (node_map s id)) offset ≡ Some child
      child-below = ap (λ v. slice_get (children_in v) offset) focus ∙ sym below

      -- the number of a child is used
      pub below-used : IsUsed s child
      below-used =
          let r = root-there cmp laws s tree id (view_of node) focus in
          let c = child-places (node_map s) levels r.0 (pairs_of s) (placed cmp laws s tree r.0 r.1) id offset child child-below in
          used-of cmp laws s tree child c.node c.here

      -- the place of an offset is that past the end of the child before it
      pub child-end : (place : ℕ) → IsPlaceIn s (address_at id offset) place
          → (size : ℕ) × (size_at s child ≡ Some size) × IsPlaceIn s (address_at child size) place
      child-end place i =
          let r = root-there cmp laws s tree id (view_of node) focus in
          let p = placed cmp laws s tree r.0 r.1 in
          let c = child-places (node_map s) levels r.0 (pairs_of s) p id offset child child-below in (
            size_of c.node,
            ap (option_map size_of) c.here,
            in-state cmp laws s tree r.0 r.1 child (Some (size_of c.node)) place
                (down-to-end (node_map s) levels r.0 (pairs_of s) p id offset child child-below c.node c.here place
                (in-tree cmp laws s tree r.0 r.1 id (Some offset) place i)),
          )

      -- the item before that of an internal node is the last one under the child before it
      pub before-below : (last : ℕ × ℕ) → EndsInLeaf s child last → (a : Address) (o : ℕ) → last.1 ≡ suc o → a ≡ address_at last.0 o
          → LeadsBefore s (address_at id offset) (Some a)
      before-below last e a o more same place i =
          let c = child-end place i in
          ends-before child last e c.0 c.1 a o more same place c.2

    -- in a leaf
    module _ (low : offset ≤ size_of (view_of node)) (none : None ≡ slice_get (children_of (view_of node)) offset) where
      in-leaf : (parent : Option ℕ) × (items : List (K × V)) × (node_map s id ≡ Some (leaf parent items)) × (length items ≡ size_of (view_of node))
      in-leaf =
          let l = leaf-without (view_of node) offset low (sym none) in
          (l.0, l.1, focus ∙ ap Some l.2, sym (ap size_of l.2))

      pub before-start : offset ≡ 0 → (found : Option Address) → LeadsBefore s (address_before id) found
          → LeadsBefore s (address_at id offset) found
      before-start z found leads place i =
          let l = in-leaf in
          let r = root-there cmp laws s tree id (view_of node) focus in
          let p = placed cmp laws s tree r.0 r.1 in
          let i2 = subst (λ k. IsPlaceIn s (address_at id k) place) z i in
          leads place (in-state cmp laws s tree r.0 r.1 id None place
          (leaf-start (node_map s) levels r.0 (pairs_of s) p id l.0 l.1 l.2 place (in-tree cmp laws s tree r.0 r.1 id (Some 0) place i2)))

      pub before-along : (o : ℕ) → offset ≡ suc o → (a : Address) → a ≡ address_at id o → LeadsBefore s (address_at id offset) (Some a)
      before-along o more a same place i =
          let l = in-leaf in
          let n = l.3 in
          let low2 : o < length l.1 = omega arith in
          let r = root-there cmp laws s tree id (view_of node) focus in
          let p = placed cmp laws s tree r.0 r.1 in
          let i2 = subst (λ k. IsPlaceIn s (address_at id k) place) more i in
          let b = leaf-back (node_map s) levels r.0 (pairs_of s) p id l.0 l.1 l.2 o low2 place (in-tree cmp laws s tree r.0 r.1 id (Some (suc o)) place i2) in
          subst (λ z. IsItemBefore s place (Some z)) (sym same)
          (subst (λ k. IsItemBefore s k (Some (address_at id o))) (sym b.1)
          (item-here cmp laws s tree (address_at id o) b.0 (occupied-below (node_map s) id o (leaf l.0 l.1) l.2 low2)
          (in-state cmp laws s tree r.0 r.1 id (Some o) b.0 b.2)))

  -- up from before a node
  module _ (start id : ℕ) (node : Node K V) (d : ClimbsBefore s start id node) where
    at-node : node_map s id ≡ Some (view_of node)
    at-node = ap (option_map view_of) d.here

    pub before-none : parent_of (view_of node) ≡ None → LeadsBefore s (address_before start) None
    before-none none place i =
        let r = root-there cmp laws s tree id (view_of node) at-node in
        let p = placed cmp laws s tree r.0 r.1 in
        let z = root-start (node_map s) levels r.0 (pairs_of s) p id (view_of node) at-node none place
        (in-tree cmp laws s tree r.0 r.1 id None place (d.leads place i)) in
        subst (λ k. IsItemBefore s k None) (sym z) refl

    module _ (parent : ℕ) (up : parent_of (view_of node) ≡ Some parent) where
      module _ (above : Node K V) (at : finite.get s.nodes parent ≡ Some above) where
        above-focus : node_map s parent ≡ Some (view_of above)
        above-focus = ap (option_map view_of) at

        module _ (o : Option ℕ) (is : o ≡ position (λ child. child == id) (children_of (view_of above))) where
          module _ (index : ℕ) (found : o ≡ Some index) where
            pub before-item : (i : ℕ) → index ≡ suc i → index ≤ size_of (view_of above) → (a : Address) → a ≡ address_at parent i
                → LeadsBefore s (address_before start) (Some a)
            before-item i more low a same place there =
                let below = child-there cmp laws s tree id node d.here parent up above at o is index found in
                let r = root-there cmp laws s tree id (view_of node) at-node in
                let p = placed cmp laws s tree r.0 r.1 in
                let b = up-to-item (node_map s) levels r.0 (pairs_of s) p parent index id below i more place
                (in-tree cmp laws s tree r.0 r.1 id None place (d.leads place there)) in
                subst (λ z. IsItemBefore s place (Some z)) (sym same)
                (subst (λ k. IsItemBefore s k (Some (address_at parent i))) (sym b.1)
                (item-here cmp laws s tree (address_at parent i) b.0 (occupied-below (node_map s) parent i (view_of above) above-focus (omega arith))
                (in-state cmp laws s tree r.0 r.1 parent (Some i) b.0 b.2)))

            pub before-next : index ≡ 0 → ClimbsBefore s start parent above
            before-next z =
                let below = child-there cmp laws s tree id node d.here parent up above at o is index found in
                let r = root-there cmp laws s tree id (view_of node) at-node in
                let p = placed cmp laws s tree r.0 r.1 in
                record {
                  here = at;
                  leads = λ place i.
                      in-state cmp laws s tree r.0 r.1 parent None place
                      (up-from-first (node_map s) levels r.0 (pairs_of s) p parent index id below z place
                      (in-tree cmp laws s tree r.0 r.1 id None place (d.leads place i)));
                }

            pub before-smaller : levels_above (node_map s) levels parent < levels_above (node_map s) levels id
            before-smaller =
                let below = child-there cmp laws s tree id node d.here parent up above at o is index found in
                let r = root-there cmp laws s tree id (view_of node) at-node in
                let p = placed cmp laws s tree r.0 r.1 in
                (child-places (node_map s) levels r.0 (pairs_of s) p parent index id below).higher

  -- a valid address
  module _ (a : Address) (valid : IsValidIn s a) where
    pub previous-at : (offset : Option ℕ) → a.offset ≡ offset → (found : Option Address)
        → LeadsBefore s (record { id = a.id; offset = offset }) found → IsPrevious s a found
    previous-at offset e found leads =
        let r = place-there cmp laws s tree a valid in
        record {
          place = r.0;
          has = has-place cmp laws s tree a r.0 r.1;
          item = leads r.0 (subst (λ t. IsPlace (node_map s) s.root (pairs_of s) a.id t r.0) e r.1);
        }

    -- in the empty tree there is none
    pub previous-empty : s.root ≡ None → IsPrevious s a None
    previous-empty e =
        let i = empty-place cmp laws s tree a valid e in
        record { place = 0; has = has-place cmp laws s tree a 0 i; item = refl }
