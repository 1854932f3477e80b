-- The steps of a removal from an internal node, in the order of the code: the last item under the left child is taken,
-- it replaces the removed one, the length is set, and the leaf's underflow is fixed.
use Rattle.btree_ext.proofs.Common.{◌≡◌, ◌∙◌, ◌<◌, ◌^◌, ℕ, set, Option, Some, IsSome, IsTrue, IsSomeAnd, refl, sym, ap, subst, option_map, arith, slice_get_within, IsTotalOrder, Ordering, Address, Node, view_of, is_internal, with_other_item, with_other_item_at, View, items_of, size_of, HasItems, WritesNode, TreeState, IsBTree, IsUsed, node_map, writes_node, TakesLast, IsRebalanced, HasCount, HasParent, IsInnerAt, IsRemoved, LeadsBehind}
use Rattle.std.specs.FinMap as finite
use Rattle.btree_view.specs.View.{item_at_offset, parent_of}
use Rattle.btree_laws.proofs.Trees.Stores.{view-at}
use Rattle.btree_ext.specs.Remove.{ReplacesInner}
use Rattle.btree_ext.specs.Taken.{LacksOne, TakesInner, one_less}
use Rattle.btree_ext.proofs.InnerLemmas.{apart, inner-counted, inner-off, inner-room, inner-valid, node-of, other-items, removed-from-internal}

module _ {K V : Type 0} {cmp : K → K → Ordering} (laws : IsTotalOrder cmp) {old : TreeState K V} (tree : IsBTree cmp old)
    {a : Address} {left : ℕ} (inner : IsInnerAt old a left) {taken : TreeState K V} {y : K × V} {leaf_id : ℕ}
    (takes : TakesLast old taken left y leaf_id) where
  pub still : node_map taken a.id ≡ Some inner.node
  still = takes.writes.others a.id (apart laws tree inner takes) ∙ inner.here

  -- the node of the item is there
  pub inner-still : IsUsed taken a.id
  inner-still =
      let n = node-of (finite.get taken.nodes a.id) inner.node still in
      subst (λ (o : Option (Node K V)). IsSome o) (sym n.1) refl

  module _ (node : Node K V) (at : Some node ≡ finite.get taken.nodes a.id) where
    pub inner-is : view_of node ≡ inner.node
    inner-is = view-at taken.nodes a.id node inner.node at still

    pub is-inner : IsTrue (is_internal (view_of node))
    is-inner = subst (λ v. IsTrue (is_internal v)) (sym inner-is) inner.kind

    pub has-item : IsSomeAnd a.offset (λ index. index < size_of (view_of node))
    has-item =
        subst (λ o. IsSomeAnd o (λ index. index < size_of (view_of node))) (sym inner.offset)
        (subst (λ v. inner.index < size_of v) (sym inner-is)
        (slice_get_within (items_of inner.node) inner.index inner.item inner.stands))

-- the last item is in the place of the removed one
module _ {K V : Type 0} {cmp : K → K → Ordering} (laws : IsTotalOrder cmp) {old mid : TreeState K V} (tree : IsBTree cmp old)
    {a : Address} {left : ℕ} (inner : IsInnerAt old a left) {x : K × V} {leaf_id : ℕ} (t : TakesInner old mid a left x leaf_id) where
  node-is : view_of t.node ≡ inner.node
  node-is = inner-is laws tree inner t.takes t.node t.at

  pub removed-is : inner.item ≡ x
  removed-is =
      let e : Some x ≡ Some inner.item =
      t.item ∙ ap (λ o. item_at_offset (view_of t.node) o) inner.offset
      ∙ ap (λ v. item_at_offset v (Some inner.index)) node-is ∙ inner.stands in
      cc

  pub kept-is : view_of t.kept ≡ with_other_item inner.index t.last inner.node
  kept-is =
      t.replaced ∙ ap (λ o. with_other_item_at o t.last (view_of t.node)) inner.offset
      ∙ ap (λ v. with_other_item inner.index t.last v) node-is

  put : WritesNode (node_map t.taken) (node_map mid) a.id (view_of t.kept)
  put = writes_node t.taken.nodes mid.nodes a.id t.kept (ap (λ (s : TreeState K V). s.nodes) t.after)

  has : HasItems inner.node (view_of t.kept) (set (items_of inner.node) inner.index t.last)
  has =
      subst (λ v. HasItems inner.node v (set (items_of inner.node) inner.index t.last)) (sym kept-is)
      (other-items inner.index t.last inner.node)

  top : mid.root ≡ old.root
  top = ap (λ (s : TreeState K V). s.root) t.after ∙ ap (λ (s : TreeState K V). s.root) t.takes.rest.rest

  as-long : mid.len ≡ old.len
  as-long = ap (λ (s : TreeState K V). s.len) t.after ∙ ap (λ (s : TreeState K V). s.len) t.takes.rest.rest

  same-node : (other : View (K × V)) → node_map old a.id ≡ Some other → inner.node ≡ other
  same-node other is = let e = inner.here in cc

  -- the leaf is still as it was left
  leaf-same : node_map mid leaf_id ≡ node_map t.taken leaf_id
  leaf-same = put.others leaf_id (λ e. apart laws tree inner t.takes (sym e))

  module _ (few : mid.len < 2 ^ 64) (next : Address) (behind : LeadsBehind old a next) where
    small : old.len < 2 ^ 64
    small = let e = as-long in omega arith

    pub inner-lost : (count : ℕ) → HasCount (node_map t.taken) leaf_id count → (parent : Option ℕ) → HasParent (node_map t.taken) leaf_id parent
        → LacksOne cmp mid leaf_id count parent next
    inner-lost count counted parent above = record {
      some = let n = inner-counted laws tree inner t.takes in let e = as-long in omega arith;
      off = inner-off laws tree inner t.takes next behind small (one_less mid) (view_of t.kept) put has top;
      valid = inner-valid laws tree inner t.takes next behind small (one_less mid) (view_of t.kept) put has top;
      room = inner-room laws tree inner t.takes next behind small (one_less mid) (view_of t.kept) put has top;
      counted = ap (option_map size_of) leaf-same ∙ counted;
      above = ap (option_map parent_of) leaf-same ∙ above;
    }

    replaces-inner : (new : TreeState K V) (b : Address) → IsRebalanced (one_less mid) new leaf_id cmp next b → ReplacesInner old new cmp a left b
    replaces-inner new b r = record {
      last = t.last;
      leaf = leaf_id;
      taken = t.taken;
      takes = t.takes;
      replaced = one_less mid;
      writes = λ other is. subst (λ v. WritesNode (node_map t.taken) (node_map mid) a.id v)
          (t.replaced ∙ ap (λ v. with_other_item_at a.offset t.last v) (node-is ∙ same-node other is)) put;
      next = next;
      behind = behind;
      rebalanced = r;
    }

    -- after the underflow is fixed
    pub inner-settled : (new : TreeState K V) (b : Address) → IsRebalanced (one_less mid) new leaf_id cmp next b → IsRemoved old new cmp a x b
    inner-settled new b r =
        let n = inner-counted laws tree inner t.takes in
        let e = as-long in
        subst (λ z. IsRemoved old new cmp a z b) removed-is
        (removed-from-internal laws tree inner t.takes next behind small (one_less mid) (view_of t.kept) put has top new b (omega arith)
        (ap (λ (s : TreeState K V). s.kept) t.after ∙ ap (λ (s : TreeState K V). s.kept) t.takes.rest.rest) r (replaces-inner new b r))
