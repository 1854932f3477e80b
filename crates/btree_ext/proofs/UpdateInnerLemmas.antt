-- An update of a pair in an internal node: the last pair under the child before it was in its place, and goes back.
use Rattle.btree_ext.proofs.Common.{[], ◌≡◌, ◌≢◌, ◌∙◌, ◌<◌, ◌≤◌, ℕ, zero, suc, inl, inr, List, ◌∷◌, length, set, Option, Some, None, IsSome, IsTrue, IsSomeAnd, refl, sym, ap, subst, option_map, option_and_then, slice_get, arith, slice_get_within, IsTotalOrder, remove, Ordering, get-insert_same, Address, Node, view_of, is_internal, with_other_item, with_other_item_at, View, leaf, item_in, items_of, most_of, size_of, HasItems, WritesNode, TreeState, Changes, IsBTree, IsUsed, item_of, node_map, same-or, with_node, IsValueExchanged, IsInnerAt}
use Rattle.std.proofs.Common.{◌++◌}
use Rattle.std.specs.FinMap as finite
use Rattle.btree_store.specs.ContentLaws.{get-insert_other}
use Rattle.btree_view.specs.Edits.{HasChildFor, pushed_right}
use Rattle.btree_view.specs.View.{item_at_offset}
use Rattle.btree_laws.proofs.Trees.Stores.{view-at}
use Rattle.btree_ext.proofs.ExchangeLemmas.{ExchangesAt, value-exchanged}
use Rattle.btree_ext.proofs.InnerLemmas.{apart, node-of, other-items, well}
use Rattle.btree_ext.specs.Taken.{TakesInner}
use Rattle.btree_ext.proofs.RemoveInnerLemmas.{kept-is, removed-is}
use Rattle.btree_ext.proofs.RemoveLemmas.{remove-shorter}
use Rattle.btree_ext.proofs.UpdateLeafLemmas.{same-node}
use Rattle.btree_ext.proofs.WrittenLaws.{set-here}

-- an item set twice at an index, and what is there
set-set : {X : Type 0} (xs : List X) (n : ℕ) (x y : X) → set (set xs n x) n y ≡ set xs n y
set-set [] n x y = refl
set-set (z ∷ xs) zero x y = refl
set-set (z ∷ xs) (suc n) x y = ap (λ l. z ∷ l) (set-set xs n x y)

-- the last item, removed and put back
back-last : {X : Type 0} (xs : List X) (n : ℕ) (x : X) → length xs ≡ suc n → slice_get xs n ≡ Some x → remove xs n ++ x ∷ [] ≡ xs
back-last [] n x count last = absurd (cc)
back-last (z ∷ []) zero x count last = let e : z ≡ x = cc in ap (λ y. y ∷ []) (sym e)
back-last (z ∷ y ∷ xs) zero x count last = absurd (omega arith)
back-last (z ∷ xs) (suc n) x count last = ap (λ l. z ∷ l) (back-last xs n x (omega arith) last)

-- an item of an internal node was taken out, and the last one under the child before it is in its place
module _ {K V : Type 0} {cmp : K → K → Ordering} (laws : IsTotalOrder cmp) {old mid : TreeState K V} (tree : IsBTree cmp old)
    {a : Address} {left : ℕ} (inner : IsInnerAt old a left) {x : K × V} {leaf_id : ℕ} (t : TakesInner old mid a left x leaf_id) where
  abbrev items : List (K × V)
  items = items_of inner.node

  abbrev index : ℕ
  index = inner.index

  abbrev shorter : View (K × V)
  shorter = leaf t.takes.parent (remove t.takes.items t.takes.index)

  item-is : inner.item ≡ x
  item-is = removed-is laws tree inner t

  -- it was there
  pub inner-had : item_of old a ≡ Some x
  inner-had =
      ap (option_and_then (item_in (node_map old a.id))) inner.offset
      ∙ (ap (λ v. item_in v index) inner.here ∙ (inner.stands ∙ ap Some item-is))

  differs : a.id ≢ leaf_id
  differs = apart laws tree inner t.takes

  abbrev held : View (K × V)
  held = with_other_item index t.last inner.node

  held-has : HasItems inner.node held (set items index t.last)
  held-has = other-items index t.last inner.node

  -- the node under each number
  got : (n : ℕ) → finite.get mid.nodes n ≡ finite.get (finite.insert t.taken.nodes a.id t.kept) n
  got n = ap (λ (s : TreeState K V). finite.get s.nodes n) t.after

  pub held-used : IsUsed mid a.id
  held-used = subst (λ (o : Option (Node K V)). IsSome o) (sym (got a.id ∙ get-insert_same t.taken.nodes a.id t.kept)) refl

  module _ (still : Node K V) (there : Some still ≡ finite.get mid.nodes a.id) where
    held-is : view_of still ≡ held
    held-is = ap view_of (same-node t.taken.nodes a.id t.kept still (there ∙ got a.id)) ∙ kept-is laws tree inner t

    item-there : slice_get (items_of held) index ≡ Some t.last
    item-there = ap (λ l. slice_get l index) held-has.items_are ∙ set-here items index inner.item t.last inner.stands

    pub held-internal : IsTrue (is_internal (view_of still))
    held-internal =
        subst (λ v. IsTrue (is_internal v)) (sym held-is)
        (subst (λ b. IsTrue b) (sym held-has.kind) inner.kind)

    pub held-occupied : IsSomeAnd a.offset (λ n. n < size_of (view_of still))
    held-occupied =
        subst (λ o. IsSomeAnd o (λ n. n < size_of (view_of still))) (sym inner.offset)
        (subst (λ v. index < size_of v) (sym held-is) (slice_get_within (items_of held) index t.last item-there))

    module _ (w : V) (z : K × V) (answer2 : Some z ≡ item_at_offset (view_of still) a.offset) (put : Node K V)
        (after2 : view_of put ≡ with_other_item_at a.offset (x.0, w) (view_of still)) where
      z-is : z ≡ t.last
      z-is =
          let e : Some z ≡ Some t.last =
          answer2 ∙ ap (λ o. item_at_offset (view_of still) o) inner.offset
          ∙ ap (λ v. slice_get (items_of v) index) held-is ∙ item-there in
          cc

      put-is : view_of put ≡ with_other_item index (x.0, w) held
      put-is =
          after2 ∙ ap (λ o. with_other_item_at o (x.0, w) (view_of still)) inner.offset
          ∙ ap (λ v. with_other_item index (x.0, w) v) held-is

      put-has : HasItems inner.node (view_of put) (set items index (x.0, w))
      put-has =
          let h = other-items index (x.0, w) held in
          subst (λ v. HasItems inner.node v (set items index (x.0, w))) (sym put-is)
          (record {
            kind = h.kind ∙ held-has.kind;
            parent = h.parent ∙ held-has.parent;
            children = h.children ∙ held-has.children;
            items_are = h.items_are ∙ ap (λ l. set l index (x.0, w)) held-has.items_are ∙ set-set items index t.last (x.0, w);
          })

      abbrev put-state : TreeState K V
      put-state = with_node mid a.id put

      leaf-kept : node_map put-state leaf_id ≡ Some shorter
      leaf-kept =
          let away : leaf_id ≢ a.id = λ e. differs (sym e) in
          ap (option_map view_of)
          (get-insert_other mid.nodes a.id put leaf_id away ∙ got leaf_id ∙ get-insert_other t.taken.nodes a.id t.kept leaf_id away)
          ∙ t.takes.writes.here

      pub leaf-used : IsUsed put-state leaf_id
      leaf-used =
          let n = node-of (finite.get put-state.nodes leaf_id) shorter leaf-kept in
          subst (λ (o : Option (Node K V)). IsSome o) (sym n.1) refl

      module _ (last : Node K V) (last-at : Some last ≡ finite.get put-state.nodes leaf_id) where
        last-is : view_of last ≡ shorter
        last-is = view-at put-state.nodes leaf_id last shorter last-at leaf-kept

        pub last-room : size_of (view_of last) ≤ most_of (view_of last)
        last-room =
            let n = remove-shorter t.takes.items t.takes.index t.last t.takes.last in
            let m = (well laws tree inner t.takes).formed.sized leaf_id (leaf t.takes.parent t.takes.items) t.takes.here in
            let most = m.1 in
            subst (λ v. size_of v ≤ most_of v) (sym last-is) (omega arith)

        pub last-leaf : HasChildFor None (view_of last)
        last-leaf = subst (λ v. HasChildFor None v) (sym last-is) refl

        module _ (full : Node K V) (after3 : view_of full ≡ pushed_right z None (view_of last)) where
          full-is : view_of full ≡ leaf t.takes.parent t.takes.items
          full-is =
              after3 ∙ ap (λ q. pushed_right q None (view_of last)) z-is ∙ ap (λ v. pushed_right t.last None v) last-is
              ∙ ap (leaf t.takes.parent) (back-last t.takes.items t.takes.index t.last t.takes.count t.takes.last)

          abbrev put-back : TreeState K V
          put-back = with_node put-state leaf_id full

          others : (n : ℕ) → n ≢ a.id → node_map put-back n ≡ node_map old n
          others n ne = elim (same-or n leaf_id) [
            | inl e ↦
                ap (λ m. node_map put-back m) e
                ∙ (ap (option_map view_of) (get-insert_same put-state.nodes leaf_id full) ∙ ap Some full-is ∙ sym t.takes.here)
                ∙ ap (λ m. node_map old m) (sym e)
            | inr away ↦
                ap (option_map view_of)
                (get-insert_other put-state.nodes leaf_id full n away ∙ get-insert_other mid.nodes a.id put n ne
                ∙ got n ∙ get-insert_other t.taken.nodes a.id t.kept n ne)
                ∙ t.takes.writes.others n away
          ]

          writes : WritesNode (node_map old) (node_map put-back) a.id (view_of put)
          writes = record {
            here = ap (option_map view_of)
                (get-insert_other put-state.nodes leaf_id full a.id differs ∙ get-insert_same mid.nodes a.id put);
            others = others;
          }

          as-rest : put-back ≡ record old { nodes = put-back.nodes }
          as-rest =
              let with_nodes : TreeState K V → TreeState K V = λ s. record s { nodes = put-back.nodes } in
              ap with_nodes t.after ∙ ap with_nodes t.takes.rest.rest

          exchanges : Changes (λ p q. ExchangesAt p q a x (x.0, w)) old put-back
          exchanges = record {
            nodes = record {
              old = inner.node;
              here = inner.here;
              offset = index;
              at = inner.offset;
              stood = inner.stands ∙ ap Some item-is;
              node = view_of put;
              items = put-has;
              writes_node = writes;
            };
            rest = record { rest = as-rest };
          }

          pub inner-exchanged : IsValueExchanged old put-back a cmp x.1 w
          inner-exchanged = value-exchanged cmp laws old put-back a x.0 x.1 w tree exchanges
