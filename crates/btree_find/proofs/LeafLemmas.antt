-- From an address to the one in a leaf at its place.
use Rattle.btree_find.proofs.Common.{◌≡◌, ◌≤◌, ◌∙◌, ◌^◌, ◌-◌, ℕ, inl, inr, Option, Some, None, IsSome, refl, sym, ap, subst, option_map, slice_get, IsTotalOrder, Ordering, Address, Node, view_of, children_in, children_of, size_of, address_at, address_before, IsPlace, TreeState, IsBTree, IsLeafAddressIn, IsValidIn, node_map, pairs_of, place-valid, EndsInLeaf, leaf-without, BeginsInLeaf}
use Rattle.std.specs.FinMap as finite
use Rattle.btree_laws.specs.Place.{IsValid}
use Rattle.btree_find.specs.Navigation.{IsLeafAddressFor}
use Rattle.btree_find.proofs.PlaceLemmas.{empty-by, has-place, place-there}
use Rattle.btree_find.proofs.PreviousLemmas.{child-end}
use Rattle.btree_find.proofs.WalkLemmas.{not-leaf}

module _ {K V : Type 0} (cmp : K → K → Ordering) (laws : IsTotalOrder cmp) (s : TreeState K V) (tree : IsBTree cmp s)
    (a : Address) (valid : IsValidIn s a) where
  -- an address in a leaf is its own address in a leaf
  pub leaf-same : IsLeafAddressIn s a → IsLeafAddressFor s a a
  leaf-same l =
      let r = place-there cmp laws s tree a valid in
      record {
        valid = valid;
        in_leaf = l;
        place = r.0;
        has = has-place cmp laws s tree a r.0 r.1;
        there = has-place cmp laws s tree a r.0 r.1;
        back = (λ o. o, λ o. o);
        same = λ _. refl;
      }

  pub leaf-nowhere : s.root ≡ None → IsLeafAddressFor s a a
  leaf-nowhere e = leaf-same (inr (by valid))
    where
      by : IsValid (node_map s) s.root a.id a.offset → (s.root ≡ None) × (a.id ≡ 2 ^ 64 - 1) × (a.offset ≡ Some 0)
      by v = let n = empty-by cmp laws s tree a valid e v in (e, n.1, n.2)

  module _ (root : ℕ) (is : s.root ≡ Some root) (node : Node K V) (at : finite.get s.nodes a.id ≡ Some node) where
    here : node_map s a.id ≡ Some (view_of node)
    here = ap (option_map view_of) at

    pub leaf-here : (index : ℕ) → index ≤ size_of (view_of node) → None ≡ slice_get (children_of (view_of node)) index → IsLeafAddressFor s a a
    leaf-here index low none =
        let l = leaf-without (view_of node) index low (sym none) in
        leaf-same (inl (rw (here, l.2) tt))

    module _ (index child : ℕ) (below : Some child ≡ slice_get (children_of (view_of node)) index) where
      child-there : slice_get (children_in (node_map s a.id)) index ≡ Some child
      child-there = ap (λ v. slice_get (children_in v) index) here ∙ sym below

      inner : IsLeafAddressIn s a → ⊥
      inner (inl l) = not-leaf (node_map s) (node_map s a.id) index child child-there l
      inner (inr n) = let e = n.0 in absurd (cc)

      pub leaf-last-below : a.offset ≡ Some index → (last : ℕ × ℕ) → EndsInLeaf s child last → (found : Address)
          → found ≡ address_at last.0 last.1 → IsLeafAddressFor s a found
      leaf-last-below some last e found same =
          let r = place-there cmp laws s tree a valid in
          let i = subst (λ t. IsPlace (node_map s) s.root (pairs_of s) a.id t r.0) some r.1 in
          let c = child-end cmp laws s tree a.id index node at child below r.0 i in
          let to = e.ends r.0 c.0 c.1 c.2 in
          subst (λ z. IsLeafAddressFor s a z) (sym same)
          (record {
            valid = place-valid (node_map s) s.root (pairs_of s) last.0 (Some last.1) r.0 to;
            in_leaf = inl e.is_leaf;
            place = r.0;
            has = has-place cmp laws s tree a r.0 r.1;
            there = has-place cmp laws s tree (address_at last.0 last.1) r.0 to;
            back = (λ o. refl, λ o. subst (λ t. IsSome t) (sym some) refl);
            same = λ l. absurd (inner l);
          })

  -- at -1, in the first leaf
  pub leaf-first-below : (root : ℕ) → s.root ≡ Some root → a.offset ≡ None → (first : ℕ) → BeginsInLeaf s a.id first → (found : Address)
      → found ≡ address_before first → IsLeafAddressFor s a found
  leaf-first-below root is none first b found same =
      let r = place-there cmp laws s tree a valid in
      let i = subst (λ t. IsPlace (node_map s) s.root (pairs_of s) a.id t r.0) none r.1 in
      let to = b.begins r.0 i in
      subst (λ z. IsLeafAddressFor s a z) (sym same)
      (record {
        valid = place-valid (node_map s) s.root (pairs_of s) first None r.0 to;
        in_leaf = inl b.is_leaf;
        place = r.0;
        has = has-place cmp laws s tree a r.0 r.1;
        there = has-place cmp laws s tree (address_before first) r.0 to;
        back = (λ o. subst (λ t. IsSome t) none o, λ o. subst (λ t. IsSome t) (sym none) o);
        same = stays;
      })
    where
      stays : IsLeafAddressIn s a → address_before first ≡ a
      stays (inl l) = ap address_before (b.same l) ∙ sym (ap (λ (t : Option ℕ). record { id = a.id; offset = t }) none)
      stays (inr n) = let e = n.0 in absurd (cc)
