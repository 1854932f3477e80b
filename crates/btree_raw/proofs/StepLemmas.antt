-- Single nodes of a store, changed, as a map of nodes sees them.
use Rattle.btree_raw.proofs.Common.{◌≡◌, ℕ, ◌<◌, ◌≤◌, ◌^◌, ◌-◌, Option, Some, None, false, length, arith, refl, sym, subst, ap, ◌∙◌, option_map, Content, Node, HasChildFor, is_internal, IsSplit, with_item, view_of, View, NodeMap, leaf, internal, children_in, children_of, most_of, size_of, views, AddsItem, CanAddItem, CutsAtMedian, HasCount, other-test, writes_node}
use Rattle.std.proofs.Common.{IsSomeAnd}
use Rattle.std.specs.FinMap as map
use Rattle.btree_item.specs.Offset.{index_offset}
use Rattle.btree_view.specs.Edits.{with_item_at}
use Rattle.btree_laws.specs.Place.{IsLeaf}
use Rattle.btree_laws.proofs.Trees.Stores.{most-few, view-at}

-- an index that is not too large is an offset
index-small : (n index : ℕ) (o : Option ℕ) → index < 2 ^ 64 - 1 → index ≤ n → o ≡ index_offset index → IsSomeAnd o (λ i. i ≤ n)
index-small n index o low within e = rw (e, other-test index (2 ^ 64 - 1) (omega arith)) within

pub index-at : (index : ℕ) (o : Option ℕ) → index < 2 ^ 64 - 1 → o ≡ index_offset index → o ≡ Some index
index-at index o low e = rw (e, other-test index (2 ^ 64 - 1) (omega arith)) refl

-- a node has as many items as were counted in it
pub size-at : {A : Type 0} (node_at : NodeMap A) (id count : ℕ) (v : View A) → node_at id ≡ Some v → HasCount node_at id count → size_of v ≡ count
size-at node_at id count v e l = let q : Some (size_of v) ≡ Some count = sym (ap (option_map size_of) e) ∙ l in cc

-- a node without children is a leaf
pub childless : {A : Type 0} (v : View A) → length (children_of v) ≤ 0 → false ≡ is_internal v
childless (leaf p xs) none = refl
childless (internal p u bs) none = absurd (omega arith)

leaf-of : {A : Type 0} (node_at : NodeMap A) (v : View A) → length (children_of v) ≤ 0 → IsLeaf node_at (Some v)
leaf-of node_at (leaf p xs) none = tt
leaf-of node_at (internal p u bs) none = absurd (omega arith)

module _ {K V : Type 0} where
  module _ (nodes : Content (Node K V)) (id : ℕ) (node : Node K V) (at : Some node ≡ map.get nodes id) where
    -- what `insert` of a node requires
    pub take-room : (index : ℕ) (child : Option ℕ) (o : Option ℕ) → o ≡ index_offset index → CanAddItem (views nodes) id index child
        → (size_of (view_of node) ≤ most_of (view_of node)) × (IsSomeAnd o (λ i. i ≤ size_of (view_of node)) × HasChildFor child (view_of node))
    take-room index child o e can =
        let is = view-at nodes id node can.node at can.here in
        rw is (can.room, (index-small (size_of can.node) index o (omega (arith, can.room, can.within, most-few can.node)) can.within e, can.kind))

    -- an item may be added to a leaf that is not full
    pub leaf-can : (index : ℕ) → index ≤ size_of (view_of node) → (count : ℕ) → count ≡ length (children_of (view_of node)) → count ≤ 0
        → size_of (view_of node) < most_of (view_of node) → CanAddItem (views nodes) id index None
    leaf-can index within count is none room = record {
      node = view_of node;
      here = ap (option_map view_of) (sym at);
      room = omega arith;
      within = within;
      kind = childless (view_of node) (omega arith);
    }

    pub leaf-there : (count : ℕ) → count ≡ length (children_of (view_of node)) → count ≤ 0 → IsLeaf (views nodes) (views nodes id)
    leaf-there count is none = subst (λ v. IsLeaf (views nodes) v) (ap (option_map view_of) at) (leaf-of (views nodes) (view_of node) (omega arith))

    pub children-there : (count : ℕ) → count ≡ length (children_of (view_of node)) → 0 < count → 0 < length (children_in (views nodes id))
    children-there count is some = subst (λ v. 0 < length (children_in v)) (ap (option_map view_of) at) (omega (arith, is, some))

    -- an item was added
    pub adds : (new : Node K V) (index : ℕ) (x : K × V) (child o : Option ℕ) → o ≡ index_offset index → CanAddItem (views nodes) id index child
        → view_of new ≡ with_item_at o x child (view_of node) → AddsItem (views nodes) (views (map.insert nodes id new)) id index x child
    adds new index x child o e can is =
        let w = writes_node nodes (map.insert nodes id new) id new refl in
        let here : views nodes id ≡ Some (view_of node) = ap (option_map view_of) (sym at) in
        let index-is : o ≡ Some index = index-at index o (omega (arith, can.room, can.within, most-few can.node)) e in
        let added : view_of new ≡ with_item index x child (view_of node) = is ∙ ap (λ p. with_item_at p x child (view_of node)) index-is in
        record { here = w.here ∙ (ap Some added ∙ sym (ap (option_map (with_item index x child)) here)); others = w.others }

    pub halves : (new : Content (Node K V)) (left right : Node K V) (count : ℕ) (median : K × V) → count ≡ size_of (view_of left) → IsSplit (view_of node) median (view_of left) (view_of right)
        → new ≡ map.insert nodes id left → CutsAtMedian (views nodes) (views new) id count median (view_of right)
    halves new left right count median counted parts e = record {
      left = view_of left;
      counted = counted;
      parts = λ v here. rw (← view-at nodes id node v at here) parts;
      writes_node = writes_node nodes new id left e;
    }
