-- The steps of a removal at an address: what a node returned, and the tree in between.
use Rattle.btree_ext.proofs.Common.{◌≡◌, ◌∙◌, ◌+◌, ◌-◌, ◌<◌, ◌≤◌, ◌^◌, ℕ, suc, List, length, Option, Some, None, Ok, Err, Result, IsTrue, sym, ap, subst, option_map, option_and_then, slice_get, arith, slice_get_within, IsTotalOrder, remove, Ordering, Address, Node, view_of, is_internal, leaf, children_of, item_in, items_of, size_of, address_at, WritesNode, TreeState, IsBTree, IsPlaceIn, IsUsed, item_of, node_map, pairs_of, IsWellFormed, writes_node, HasRoom, IsRebalanced, HasChildBehind, IsInnerAt, IsRemoved, LeadsBehind}
use Rattle.std.proofs.Common.{OnOk, OnErr}
use Rattle.std.proofs.lemmas.Option.{same_Some}
use Rattle.std.specs.FinMap as finite
use Rattle.btree_view.specs.Edits.{without_at}
use Rattle.btree_view.specs.Removal.{removal_in}
use Rattle.btree_view.specs.View.{children_in, parent_of}
use Rattle.btree_view.proofs.RemovalLemmas.{child-from_removal, item-from_removal, no_item-from_removal}
use Rattle.btree_laws.specs.Focus.Positions.{address_before}
use Rattle.btree_laws.proofs.Trees.Stores.{item-some}
use Rattle.btree_laws.proofs.Paths.SiblingNumbers.{children-count}
use Rattle.btree_find.specs.Navigation.{AreBeside, LeadsToItem}
use Rattle.btree_find.proofs.NextLemmas.{next-below}
use Rattle.btree_find.proofs.PreviousLemmas.{below-used}
use Rattle.btree_find.proofs.WalkLemmas.{occupied-below}
use Rattle.btree_ext.specs.Remove.{RebalancesLeaf}
use Rattle.btree_ext.specs.Taken.{LacksOne, TakesLeaf, one_less}
use Rattle.btree_ext.proofs.InnerLemmas.{node-of}
use Rattle.btree_ext.proofs.RemoveLemmas.{removed-from-leaf, taken-counted, taken-off, taken-room, taken-valid}
use Rattle.btree_ext.proofs.WrittenLaws.{no-node}

some-same : (m n : ℕ) → Some m ≡ Some n → m ≡ n
some-same m n e = cc

-- what is so of a result that is Ok, or Err
pub on-ok : {A B C : Type 0} (r : Result A B) (x : A) → r ≡ Ok x → OnOk r C → C
on-ok {A} {B} {C} r x e = subst (λ z. OnOk z C) e

pub on-err : {A B C : Type 0} (r : Result A B) (x : B) → r ≡ Err x → OnErr r C → C
on-err {A} {B} {C} r x e = subst (λ z. OnErr z C) e

module _ {K V : Type 0} (old : TreeState K V) (a : Address) where
  -- the empty tree has no item
  pub vacant-empty : (cmp : K → K → Ordering) → IsBTree cmp old → old.root ≡ None → item_of old a ≡ None
  vacant-empty cmp tree e =
      let w = subst (λ t. IsWellFormed cmp (node_map old) t old.len (pairs_of old)) e tree in
      ap (λ v. option_and_then (item_in v) a.offset) (w.formed.0 a.id) ∙ no-node a.offset

  module _ (node : Node K V) (at : Some node ≡ finite.get old.nodes a.id) where
    pub here : node_map old a.id ≡ Some (view_of node)
    here = ap (option_map view_of) (sym at)

    pub vacant-by : None ≡ removal_in a.offset (view_of node) → item_of old a ≡ None
    vacant-by none =
        sym (item-some old.nodes a node (sym at) None (sym (no_item-from_removal (view_of node) a.offset none)))

    -- at an item of an internal node
    pub inner-by : (left : ℕ) → Some (Err left) ≡ removal_in a.offset (view_of node) → IsInnerAt old a left
    inner-by left is =
        let c = child-from_removal (view_of node) a.offset left is in
        record {
          node = view_of node;
          here = here;
          kind = c.3;
          index = c.0;
          offset = c.2;
          item = c.1;
          stands = c.4;
          child = c.5;
        }

-- the item of a leaf was taken out
module _ {K V : Type 0} {cmp : K → K → Ordering} (laws : IsTotalOrder cmp) {old mid : TreeState K V} (tree : IsBTree cmp old)
    {a : Address} {x : K × V} (t : TakesLeaf old mid a x) where
  pub leaf-is : (parent : Option ℕ) × (xs : List (K × V)) × (i : ℕ) × (view_of t.node ≡ leaf parent xs) × (a.offset ≡ Some i) × (slice_get xs i ≡ Some x)
  leaf-is = item-from_removal (view_of t.node) a.offset x t.item

  abbrev parent : Option ℕ
  parent = leaf-is.0

  abbrev xs : List (K × V)
  xs = leaf-is.1

  abbrev index : ℕ
  index = leaf-is.2

  pub leaf-here : node_map old a.id ≡ Some (leaf parent xs)
  leaf-here = here old a t.node t.at ∙ ap Some leaf-is.3

  pub shorter-is : view_of t.kept ≡ leaf parent (remove xs index)
  shorter-is = t.shorter ∙ ap (λ o. without_at o (view_of t.node)) leaf-is.4 ∙ ap (λ v. without_at (Some index) v) leaf-is.3

  written : WritesNode (node_map old) (node_map mid) a.id (view_of t.kept)
  written = writes_node old.nodes mid.nodes a.id t.kept (ap (λ (s : TreeState K V). s.nodes) t.after)

  pub put : WritesNode (node_map old) (node_map mid) a.id (leaf parent (remove xs index))
  put = subst (λ v. WritesNode (node_map old) (node_map mid) a.id v) shorter-is written

  pub top : mid.root ≡ old.root
  top = ap (λ (s : TreeState K V). s.root) t.after

  as-long : mid.len ≡ old.len
  as-long = ap (λ (s : TreeState K V). s.len) t.after

  -- it was there
  pub leaf-had : item_of old a ≡ Some x
  leaf-had = ap (option_and_then (item_in (node_map old a.id))) leaf-is.4 ∙ ap (λ v. item_in v index) leaf-here ∙ leaf-is.5

  abbrev pub leaf-room : HasRoom (node_map mid) a.id
  leaf-room = taken-room cmp laws old mid tree a index leaf-is.4 parent xs x leaf-here leaf-is.5 put top

  module _ (few : mid.len < 2 ^ 64) where
    small : old.len < 2 ^ 64
    small = let e = as-long in omega arith

    has-one : 1 ≤ old.len
    has-one = taken-counted cmp laws old (one_less mid) tree a index leaf-is.4 parent xs x leaf-here leaf-is.5 put top small

    pub leaf-lost : (count : ℕ) → count ≡ size_of (view_of t.kept) → (up : Option ℕ) → up ≡ parent_of (view_of t.kept) → LacksOne cmp mid a.id count up a
    leaf-lost count counted up above = record {
      some = let n = has-one in let e = as-long in omega arith;
      off = taken-off cmp laws old (one_less mid) tree a index leaf-is.4 parent xs x leaf-here leaf-is.5 put top small;
      valid = taken-valid cmp laws old (one_less mid) tree a index leaf-is.4 parent xs x leaf-here leaf-is.5 put top small;
      room = leaf-room;
      counted = ap (option_map size_of) written.here ∙ ap Some (sym counted);
      above = ap (option_map parent_of) written.here ∙ ap Some (sym above);
    }

    shorter : (one_less mid).len + 1 ≡ old.len
    shorter = let n = has-one in let e = as-long in omega arith

    rebalances-leaf : (new : TreeState K V) (b : Address) → IsRebalanced (one_less mid) new a.id cmp a b → RebalancesLeaf old new cmp a b
    rebalances-leaf new b r = record {
      taken = one_less mid;
      writes = λ v at.
          let same : view_of t.node ≡ v = same_Some (view_of t.node) v (sym (here old a t.node t.at) ∙ at) in
          subst (λ w. WritesNode (node_map old) (node_map mid) a.id w) (t.shorter ∙ ap (without_at a.offset) same) written;
      rest = ap (λ (s : TreeState K V). record s { nodes = mid.nodes; len = mid.len - 1 }) t.after;
      shorter = sym shorter;
      rebalanced = r;
    }

    -- after the underflow is fixed
    pub leaf-settled : (new : TreeState K V) (b : Address) → IsRebalanced (one_less mid) new a.id cmp a b → IsRemoved old new cmp a x b
    leaf-settled new b r =
        removed-from-leaf cmp laws old (one_less mid) tree a index leaf-is.4 parent xs x leaf-here leaf-is.5 put top small new b
        shorter (ap (λ (s : TreeState K V). s.kept) t.after) r (rebalances-leaf new b r)

module _ {K V : Type 0} (cmp : K → K → Ordering) (laws : IsTotalOrder cmp) (s : TreeState K V) (tree : IsBTree cmp s) where
  -- the item behind one of an internal node
  module _ (a : Address) (left : ℕ) (inner : IsInnerAt s a left) where
    pub left-used : IsUsed s left
    left-used =
        let n = node-of (finite.get s.nodes a.id) inner.node inner.here in
        below-used cmp laws s tree a.id inner.index n.0 n.1 left
        (sym (ap (λ v. slice_get (children_of v) inner.index) n.2 ∙ inner.child))

    module _ (node : Node K V) (at : finite.get s.nodes a.id ≡ Some node) where
      view-is : view_of node ≡ inner.node
      view-is =
          let e : node_map s a.id ≡ Some (view_of node) = ap (option_map view_of) at in
          let f = inner.here in
          cc

      low : inner.index < size_of (view_of node)
      low =
          subst (λ v. inner.index < size_of v) (sym view-is) (slice_get_within (items_of inner.node) inner.index inner.item inner.stands)

      pub behind-within : (index : ℕ) → a.offset ≡ Some index → index + 1 < length (children_of (view_of node))
      behind-within index e =
          let f = inner.offset in
          let same : index ≡ inner.index = cc in
          let more = children-count (view_of node) (subst (λ v. IsTrue (is_internal v)) (sym view-is) inner.kind) in
          let l = low in
          omega arith

      module _ (index : ℕ) (offset : a.offset ≡ Some index) (child : ℕ)
          (below : slice_get (children_of (view_of node)) (index + 1) ≡ Some child) where
        index-low : index < size_of (view_of node)
        index-low =
            let f = inner.offset in
            let same : inner.index ≡ index = cc in
            subst (λ n. n < size_of (view_of node)) same low

        pub leads-behind : (b : Address) → LeadsToItem s (address_before child) (Some b) → LeadsBehind s a b
        leads-behind b leads place i =
            let a-is : a ≡ address_at a.id index = λ j. record { id = a.id; offset = offset j } in
            let to = next-below cmp laws s tree a.id index node at index-low child (sym below) (Some b) leads in
            (to place (subst (λ (c : Address). IsPlaceIn s c place) a-is i)).0
            (occupied-below (node_map s) a.id index (view_of node) (ap (option_map view_of) at) index-low)

      pub has-behind : (index : ℕ) → a.offset ≡ Some index → (child : ℕ) → slice_get (children_of (view_of node)) (index + 1) ≡ Some child
          → HasChildBehind s a child
      has-behind index e child is other o =
          let same : suc other ≡ index + 1 = (let q : Some other ≡ Some index = sym o ∙ e in omega (arith, some-same other index q)) in
          ap (λ v. slice_get (children_in v) (suc other)) (ap (option_map view_of) at)
          ∙ ap (λ n. slice_get (children_of (view_of node)) n) same ∙ is

    -- the first item under the child after it is the one behind it
    module _ (right : ℕ) (behind : HasChildBehind s a right) where
      abbrev at-inner : (node : Node K V) × (finite.get s.nodes a.id ≡ Some node) × (view_of node ≡ inner.node)
      at-inner = node-of (finite.get s.nodes a.id) inner.node inner.here

      below-inner : slice_get (children_of (view_of at-inner.0)) (inner.index + 1) ≡ Some right
      below-inner =
          let n : inner.index + 1 ≡ suc inner.index = omega arith in
          ap (λ k. slice_get (children_of (view_of at-inner.0)) k) n
          ∙ sym (ap (λ v. slice_get (children_in v) (suc inner.index)) (ap (option_map view_of) at-inner.1))
          ∙ behind inner.index inner.offset

      pub beside : AreBeside s left right
      beside = record {
        parent = a.id;
        index = inner.index;
        first = ap (λ v. slice_get (children_in v) inner.index) inner.here ∙ inner.child;
        second = behind inner.index inner.offset;
      }

      pub right-leads : (b : Address) → LeadsToItem s (address_before right) (Some b) → LeadsBehind s a b
      right-leads b leads = leads-behind at-inner.0 at-inner.1 inner.index inner.offset right below-inner b leads
