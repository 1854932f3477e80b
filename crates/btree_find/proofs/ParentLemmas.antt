-- The parent of a node: it is used, and has the node as the child at the index that is found.
use Rattle.btree_find.proofs.Common.{◌≡◌, ◌==◌, ◌<◌, ◌∙◌, ℕ, Option, Some, None, IsSome, sym, ap, subst, arith, option_map, slice_get, IsTotalOrder, position, Ordering, Node, view_of, View, children_in, children_of, parent_of, TreeState, IsBTree, IsUsed, node_map, pairs_of, used-view}
use Rattle.std.specs.FinMap as finite
use Rattle.btree_laws.specs.WellFormed.{times_used}
use Rattle.btree_laws.proofs.Paths.Parents.{get-times}
use Rattle.btree_laws.proofs.Places.InNode.{index-in-parent}
use Rattle.btree_raw.proofs.SeparatorLemmas.{has-index, index-is}
use Rattle.btree_find.proofs.PlaceLemmas.{placed, root-there}

children-used : {A : Type 0} (v : Option (View A)) (index id : ℕ) → slice_get (children_in v) index ≡ Some id → 0 < times_used v
children-used None index id e = absurd (cc)
children-used (Some v) index id e = omega arith

module _ {K V : Type 0} (cmp : K → K → Ordering) (laws : IsTotalOrder cmp) (s : TreeState K V) (tree : IsBTree cmp s) (id : ℕ) (node : Node K V)
    (here : finite.get s.nodes id ≡ Some node) (parent : ℕ) (up : parent_of (view_of node) ≡ Some parent) where
  parent-index : (index : ℕ) × (slice_get (children_in (node_map s parent)) index ≡ Some id)
  parent-index =
      let focus : node_map s id ≡ Some (view_of node) = ap (option_map view_of) here in
      let r = root-there cmp laws s tree id (view_of node) focus in
      index-in-parent (node_map s) (finite.len s.nodes) r.0 (pairs_of s) (placed cmp laws s tree r.0 r.1) id (view_of node) focus parent up

  pub parent-used : IsUsed s parent
  parent-used = let i = parent-index in used-view s.nodes parent (children-used (node_map s parent) i.0 id i.1)

  module _ (above : Node K V) (at : finite.get s.nodes parent ≡ Some above) (o : Option ℕ)
      (is : o ≡ position (λ child. child == id) (children_of (view_of above))) where
    focus : node_map s parent ≡ Some (view_of above)
    focus = ap (option_map view_of) at

    -- a search of the children finds an index
    pub index-there : IsSome o
    index-there =
        let i = parent-index in
        has-index id (children_of (view_of above)) o
        (get-times (children_of (view_of above)) i.0 id (subst (λ v. slice_get (children_in v) i.0 ≡ Some id) focus i.1)) is

    -- and the child with this index is the node
    pub child-there : (index : ℕ) → o ≡ Some index → slice_get (children_in (node_map s parent)) index ≡ Some id
    child-there index found =
        let i = index-is id index (children_of (view_of above)) (sym is ∙ found) in
        ap (λ v. slice_get (children_in v) index) focus ∙ i.1
