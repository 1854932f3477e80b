-- An update of a pair in a leaf: it was taken out, and is put back with another value.
use Rattle.btree_ext.proofs.Common.{◌≡◌, ◌∙◌, ◌≤◌, ℕ, List, set, Option, Some, None, IsSome, IsSomeAnd, refl, sym, ap, subst, slice_get, arith, slice_get_within, IsTotalOrder, remove, Ordering, Content, get-insert_same, Address, Node, view_of, leaf, most_of, size_of, HasItems, TreeState, Changes, IsBTree, IsUsed, writes_node, with_node, IsValueExchanged}
use Rattle.std.specs.FinMap as finite
use Rattle.btree_store.specs.ContentLaws.{insert-insert}
use Rattle.btree_view.specs.Edits.{HasChildFor, with_item_at}
use Rattle.btree_ext.specs.Taken.{TakesLeaf}
use Rattle.btree_ext.proofs.ExchangeLemmas.{ExchangesAt, value-exchanged}
use Rattle.btree_ext.proofs.RemoveAtLemmas.{leaf-here, leaf-is, leaf-room, shorter-is}
use Rattle.btree_ext.proofs.RemoveLemmas.{remove-shorter}
use Rattle.btree_ext.proofs.ReplaceLemmas.{set-as_insert}

-- the node under a number where it was inserted
pub same-node : {N : Type 0} (nodes : Content N) (id : ℕ) (node other : N) → Some other ≡ finite.get (finite.insert nodes id node) id → other ≡ node
same-node nodes id node other at = let e = get-insert_same nodes id node in cc

-- an item of a leaf was taken out, and the leaf has room for it
module _ {K V : Type 0} {cmp : K → K → Ordering} (laws : IsTotalOrder cmp) {old mid : TreeState K V} (tree : IsBTree cmp old)
    {a : Address} {x : K × V} (t : TakesLeaf old mid a x) where
  abbrev l-is : (parent : Option ℕ) × (xs : List (K × V)) × (i : ℕ) × (view_of t.node ≡ leaf parent xs) × (a.offset ≡ Some i) × (slice_get xs i ≡ Some x)
  l-is = leaf-is laws tree t

  abbrev parent : Option ℕ
  parent = l-is.0

  abbrev xs : List (K × V)
  xs = l-is.1

  abbrev index : ℕ
  index = l-is.2

  got : finite.get mid.nodes a.id ≡ finite.get (finite.insert old.nodes a.id t.kept) a.id
  got = ap (λ (s : TreeState K V). finite.get s.nodes a.id) t.after

  pub still-used : IsUsed mid a.id
  still-used = subst (λ (o : Option (Node K V)). IsSome o) (sym (got ∙ get-insert_same old.nodes a.id t.kept)) refl

  module _ (still : Node K V) (there : Some still ≡ finite.get mid.nodes a.id) where
    still-is : view_of still ≡ leaf parent (remove xs index)
    still-is = ap view_of (same-node old.nodes a.id t.kept still (there ∙ got)) ∙ shorter-is laws tree t

    pub still-room : size_of (view_of still) ≤ most_of (view_of still)
    still-room = subst (λ v. size_of v ≤ most_of v) (sym still-is) (leaf-room laws tree t).room

    pub still-within : IsSomeAnd a.offset (λ n. n ≤ size_of (view_of still))
    still-within =
        let n = remove-shorter xs index x l-is.5 in
        let m = slice_get_within xs index x l-is.5 in
        subst (λ o. IsSomeAnd o (λ n. n ≤ size_of (view_of still))) (sym l-is.4)
        (subst (λ v. index ≤ size_of v) (sym still-is) (omega arith))

    pub still-leaf : HasChildFor None (view_of still)
    still-leaf = subst (λ v. HasChildFor None v) (sym still-is) refl

    module _ (w : V) (put : Node K V) (after : view_of put ≡ with_item_at a.offset (x.0, w) None (view_of still)) where
      put-is : view_of put ≡ leaf parent (set xs index (x.0, w))
      put-is =
          after ∙ ap (λ o. with_item_at o (x.0, w) None (view_of still)) l-is.4
          ∙ ap (λ v. with_item_at (Some index) (x.0, w) None v) still-is
          ∙ ap (leaf parent) (set-as_insert xs index (x.0, w) (slice_get_within xs index x l-is.5))

      abbrev put-back : TreeState K V
      put-back = with_node mid a.id put

      exchanges : Changes (λ p q. ExchangesAt p q a x (x.0, w)) old put-back
      exchanges = record {
        nodes = record {
          old = leaf parent xs;
          here = leaf-here laws tree t;
          offset = index;
          at = l-is.4;
          stood = l-is.5;
          node = view_of put;
          items =
              subst (λ v. HasItems (leaf parent xs) v (set xs index (x.0, w))) (sym put-is)
              (record { kind = refl; parent = refl; children = refl; items_are = refl });
          writes_node = writes_node old.nodes put-back.nodes a.id put (ap (λ (s : TreeState K V). finite.insert s.nodes a.id put) t.after ∙ insert-insert old.nodes a.id t.kept put);
        };
        rest = record { rest = ap (λ (s : TreeState K V). record s { nodes = put-back.nodes }) t.after };
      }

      pub leaf-exchanged : IsValueExchanged old put-back a cmp x.1 w
      leaf-exchanged = value-exchanged cmp laws old put-back a x.0 x.1 w tree exchanges
