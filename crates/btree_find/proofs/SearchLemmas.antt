-- A search in a well formed tree, step by step.
use Rattle.btree_find.proofs.Common.{◌≡◌, ◌+◌, ◌++◌, ℕ, ◌<◌, ◌≤◌, ◌^◌, ◌-◌, inl, List, Option, Some, None, inr, length-append, Ok, Err, IsSome, [], ◌∷◌, refl, sym, ap, subst, ◌∙◌, length, option_map, slice_get, arith, IsTotalOrder, Less, Ordering, Ascends, place_of, before-from_Err, found-from_Err, Address, Node, view_of, View, NodeMap, leaf, internal, items_of, children_of, item_in, size_of, IsOccupied, address_before, levels_below, TreeState, IsBTree, IsLeafAddressIn, IsPlaceIn, IsUsed, IsValidIn, item_of, node_map, pairs_of, IsWellFormed, rises, searched, pairs_below, HasPlace, used-view}
use Rattle.std.proofs.Common.{◌≢◌, append_assoc, map, IfSome, Result, cond, option_and_then}
use Rattle.std.proofs.lemmas.List.{length-map}
use Rattle.std.specs.FinMap as nodes_map
use Rattle.std.specs.Ordering.{is_eq}
use Rattle.std.specs.declared.cmp.Ordering.TheVariants.{Equal, Greater}
use Rattle.btree_item.specs.Keys.{Cuts}
use Rattle.btree_item.specs.Pairs.{KeyFits, found, found_value}
use Rattle.btree_item.proofs.PairEdits.{KeyFits-before}
use Rattle.btree_item.proofs.PairLemmas.{slice_get-from_Ok}
use Rattle.btree_item.specs.Offset.{index_offset}
use Rattle.btree_view.specs.LookUp.{placed, offset_in}
use Rattle.btree_laws.specs.Place.{NOWHERE}
use Rattle.btree_laws.specs.Focus.Path.{items_after}
use Rattle.btree_laws.specs.Focus.Search.{IsSearching}
use Rattle.btree_laws.specs.Focus.Subtree.{items_under}
use Rattle.btree_laws.specs.TreeState.{pairs_under}
use Rattle.btree_laws.proofs.LookUp.Descent.{get-after, search-ascends, search-down}
use Rattle.btree_laws.proofs.LookUp.Ends.{search-hit, search-miss}
use Rattle.btree_laws.proofs.Paths.Used.{focus-used}
use Rattle.btree_laws.proofs.LookUp.KeyInList.{Rises}
use Rattle.btree_raw.proofs.PlacedLemmas.{has-child}
use Rattle.btree_find.specs.Answers.{IsAddressBy, IsAddressIn, IsAddressOf, IsAddressUnder, IsFoundAt, IsFoundBy, IsFoundUnder, IsGapAt, IsGapBy, IsGapUnder}
use Rattle.btree_find.specs.Ends.{IsLeafBackAt}
use Rattle.btree_find.specs.Navigation.{IsItemAddress}
use Rattle.btree_find.proofs.EndsLemmas.{leaf-back-at, start-place}
use Rattle.btree_find.proofs.PlaceLemmas.{has-place, in-state, item-here}
use Rattle.btree_find.proofs.ReplacesLemmas.{key-replaces}
use Rattle.btree_find.proofs.UnderLemmas.{begins-here, fits-whole, place-in_whole}
use Rattle.btree_laws.proofs.Trees.Stores.{most-few}

-- the key of a pair that is found is equal
pub found-equal : {K Q V : Type 0} (cmp : K → Q → Ordering) (k : Q) (xs : List (K × V)) → IfSome (found cmp k xs) (λ x. cmp x.0 k ≡ Equal)
found-equal cmp k [] = tt
found-equal {K} {Q} {V} cmp k (x ∷ xs) = by (cmp x.0 k) refl (found-equal cmp k xs)
  where
    by : (o : Ordering) → cmp x.0 k ≡ o → IfSome (found cmp k xs) (λ (y : K × V). cmp y.0 k ≡ Equal)
        → IfSome (cond (is_eq o) (Some x) (found cmp k xs)) (λ (y : K × V). cmp y.0 k ≡ Equal)
    by Less is rest = rest
    by Equal is rest = is
    by Greater is rest = rest

-- a search of a node that gives an offset has found the key there
pub placed-ok : (r : Result ℕ ℕ) (children : List ℕ) (offset : Option ℕ) → Ok offset ≡ placed r children → (o : ℕ) × (r ≡ Ok o) × (offset ≡ Some o)
placed-ok (Ok i) children offset e = (i, refl, cc)
placed-ok (Err i) children offset e = absurd (cc)

pub placed-err : (r : Result ℕ ℕ) (children : List ℕ) (index : ℕ) (child : Option ℕ) → Err (index, child) ≡ placed r children → (r ≡ Err index) × (slice_get children index ≡ child)
placed-err (Ok i) children index child e = absurd (cc)
placed-err (Err i) children index child e =
    let P : Type 0 = ℕ × Option ℕ in
    let given : P = (index, child) in
    let found : P = (i, slice_get children i) in
    let pair : given ≡ found = cc in
    let a : index ≡ i = ap (λ (p : P). p.0) pair in
    let b : child ≡ slice_get children i = ap (λ (p : P). p.1) pair in
    (ap Err (sym a), ap (slice_get children) a ∙ sym b)

regroup : {X : Type 0} (xs ys zs ws : List X) → xs ++ (ys ++ (zs ++ ws)) ≡ (xs ++ (ys ++ zs)) ++ ws
regroup xs ys zs ws = simp append_assoc

pub small : (index : ℕ) → index ≤ 9 → index_offset index ≡ Some index
small index few = let ne : index ≢ 2 ^ 64 - 1 = λ e. omega arith in grind arith

-- a search among the pairs under node `top` has reached node `id`
pub record Searches {K Q V : Type 0} (cmp : K → Q → Ordering) (k : Q) (s : TreeState K V) (top id : ℕ) : Type 0 where
  pub root : ℕ
  pub is : s.root ≡ Some root
  pub start : ℕ
  pub begins : HasPlace s (address_before top) start
  pub searching : IsSearching cmp k (node_map s) root (pairs_of s) (pairs_below s top) start id

module _ {K Q V : Type 0} (cmp : K → Q → Ordering) (k : Q) {ord : K → K → Ordering} (laws : IsTotalOrder ord) (cut : Cuts ord cmp) (s : TreeState K V) (tree : IsBTree ord s) where
  abbrev node_at : NodeMap (K × V)
  node_at = node_map s

  abbrev pairs : List (K × V)
  pairs = pairs_of s

  up : Rises ord pairs
  up = rises ord pairs tree.ascends

  -- a search begins at the node itself
  pub search-begins : (top : ℕ) → IsUsed s top → Searches cmp k s top top
  search-begins top used =
      let b = begins-here ord laws s tree top used cmp k in
      record { root = b.root; is = b.is; start = b.start; begins = b.begins; searching = b.searching }

  module _ (top id : ℕ) (q : Searches cmp k s top id) where
    abbrev within : List (K × V)
    within = pairs_below s top

    well : IsWellFormed ord node_at (Some q.root) s.len pairs
    well = subst (λ t. IsWellFormed ord node_at t s.len pairs) q.is tree

    -- the node that a search comes to is there
    pub node-used : IsSome (nodes_map.get s.nodes id)
    node-used = used-view s.nodes id (focus-used (K × V) node_at q.root pairs id q.searching.node)

    module _ (node : Node K V) (at : nodes_map.get s.nodes id ≡ Some node) where
      here : node_at id ≡ Some (view_of node)
      here = ap (option_map view_of) at

      -- the items of the node that a search comes to are in order
      pub node-ascends : Ascends ord (items_of (view_of node))
      node-ascends = search-ascends cmp k cut node_at q.root pairs up within q.start id q.searching (view_of node) here

      item-at : (o : ℕ) → place_of cmp k (items_of (view_of node)) ≡ Ok o → IsOccupied node_at id (Some o)
      item-at o place =
          let r = searched cmp k cut (items_of (view_of node)) (Ok o) (rises ord (items_of (view_of node)) node-ascends) place in
          (r.1, ap (λ n. item_in n o) here ∙ (ap (λ l. slice_get l o) r.3 ∙ get-after r.0 r.1 r.2 o (sym r.4)))

      -- all pairs are those of the search, between those before and after them
      whole-split : pairs ≡ q.searching.part.front ++ (within ++ q.searching.part.back)
      whole-split =
          let f = q.searching.node.focus in
          let p = q.searching.part in
          let under : List (K × V) = items_under (K × V) f.height f.subtree in
          f.whole.list
          ∙ (ap (λ l. l ++ (under ++ items_after f.path)) p.before
          ∙ (ap (λ l. (p.front ++ p.lower) ++ (under ++ l)) p.after
          ∙ (append_assoc p.front p.lower (under ++ (p.higher ++ p.back))
          ∙ ap (λ l. p.front ++ l) (regroup p.lower under p.higher p.back ∙ ap (λ l. l ++ p.back) (sym p.is)))))

      -- the place of a key among the pairs of the search is that among all pairs, after those before them
      whole-place : (index : ℕ) → place_of cmp k within ≡ Ok index → place_of cmp k pairs ≡ Ok (q.start + index)
      whole-place index is =
          let p = q.searching.part in
          place-in_whole cmp cut k pairs p.front within p.back index tree.ascends whole-split is ∙ ap (λ n. Ok (n + index)) (sym p.counted)

      found-in-node : (o : ℕ) → place_of cmp k (items_of (view_of node)) ≡ Ok o → IsFoundUnder cmp k s top (record { id = id; offset = Some o })
      found-in-node o place =
          let h = search-hit cmp k cut node_at q.root pairs up within q.start id q.searching (view_of node) here o place in
          let a : Address = record { id = id; offset = Some o } in
          let at : IsPlaceIn s a (q.start + h.place) = in-state ord laws s tree q.root q.is id (Some o) (q.start + h.place) h.at in
          let here = item-here ord laws s tree a (q.start + h.place) (item-at o place) at in
          let item : IsItemAddress s (q.start + h.place) a = here.here in
          let whole = whole-place h.place h.is in
          let is-found : item_of s a ≡ found cmp k pairs = item.item ∙ slice_get-from_Ok cmp cut k pairs (q.start + h.place) tree.ascends whole in
          record {
            start = q.start;
            begins = q.begins;
            index = h.place;
            is = h.is;
            pair = h.item;
            item = item;
            whole = record {
              place = q.start + h.place;
              is = whole;
              here = item;
              item = is-found;
              same = subst (λ x. IfSome x (λ (y : K × V). cmp y.0 k ≡ Equal)) (sym is-found) (found-equal cmp k pairs);
              listed = sym here.listed;
            };
          }

      pub hit : (offset : Option ℕ) → Ok offset ≡ offset_in cmp k (view_of node) → (a : Address) → a ≡ record { id = id; offset = offset }
          → IsFoundUnder cmp k s top a
      hit offset e a same =
          let r = placed-ok (place_of cmp k (items_of (view_of node))) (children_of (view_of node)) offset e in
          rw (same, r.2) (found-in-node r.0 r.1)

      pub down : (index child : ℕ) → Err (index, Some child) ≡ offset_in cmp k (view_of node)
          → Searches cmp k s top child × (levels_below node_at (length pairs) child < levels_below node_at (length pairs) id)
      down index child e =
          let r = placed-err (place_of cmp k (items_of (view_of node))) (children_of (view_of node)) index (Some child) e in
          let d = search-down cmp k cut node_at q.root pairs up within q.start id q.searching (view_of node) here index r.0 child r.1 in
          (record { root = q.root; is = q.is; start = q.start; begins = q.begins; searching = d.next }, d.smaller)

      gap-in-leaf : (index : ℕ) (v : View (K × V)) → node_at id ≡ Some v → Ascends ord (items_of v)
          → place_of cmp k (items_of v) ≡ Err index → slice_get (children_of v) index ≡ None
          → (place : ℕ) × (place_of cmp k within ≡ Err place) × (found cmp k within ≡ None) × IsLeafBackAt s (q.start + place) (record { id = id; offset = Some index })
      gap-in-leaf index (leaf p ys) h asc place none =
          let m = search-miss cmp k cut node_at q.root pairs up within q.start id q.searching p ys h index place in
          let a : Address = record { id = id; offset = Some index } in
          let at : IsPlaceIn s a (q.start + m.place) = in-state ord laws s tree q.root q.is id (Some index) (q.start + m.place) m.at in
          (m.place, m.is, m.absent, leaf-back-at ord laws s tree a (q.start + m.place) at (inl (rw h tt)) refl)
      gap-in-leaf index (internal p first bs) h asc place none =
          let r = searched cmp k cut (map {B = K × V} (λ (b : (K × V) × ℕ). b.0) bs) (Err index) (rises ord (map {B = K × V} (λ (b : (K × V) × ℕ). b.0) bs) asc) place in
          let n = length-map bs (λ (b : (K × V) × ℕ). b.0) in
          let a1 = ap length r.2 in
          let a2 = length-append r.0 r.1 in
          let a3 = r.3 in
          absurd (has-child first bs index (omega arith) none)

      pub miss : (index : ℕ) → Err (index, None) ≡ offset_in cmp k (view_of node) → (o : Option ℕ) → o ≡ index_offset index
          → index ≤ size_of (view_of node) → (a : Address) → a ≡ record { id = id; offset = o } → IsGapUnder cmp k s top a
      miss index e o oe few a same =
          let r = placed-err (place_of cmp k (items_of (view_of node))) (children_of (view_of node)) index None e in
          let some : o ≡ Some index = oe ∙ small index (omega (arith, few, (well.formed.sized id (view_of node) here).1, most-few (view_of node))) in
          let g = gap-in-leaf index (view_of node) here node-ascends r.0 r.1 in
          rw (same, some) (record {
            start = q.start;
            begins = q.begins;
            index = g.0;
            is = g.1;
            absent = g.2;
            gap = g.3;
          })

      -- the item at a place that was found has the value of the key
      pub hit-value : (offset : Option ℕ) → Ok offset ≡ offset_in cmp k (view_of node)
          → option_map (λ x. x.1) (option_and_then (slice_get (items_of (view_of node))) offset) ≡ found_value cmp k within
      hit-value offset e =
          let r = placed-ok (place_of cmp k (items_of (view_of node))) (children_of (view_of node)) offset e in
          let h = search-hit cmp k cut node_at q.root pairs up within q.start id q.searching (view_of node) here r.0 r.1 in
          let a : found cmp k within ≡ slice_get (items_of (view_of node)) r.0 = h.item ∙ ap (λ n. item_in n r.0) here in
          ap (option_map (λ x. x.1)) (ap (option_and_then (slice_get (items_of (view_of node)))) r.2 ∙ sym a)

      pub miss-value : (index : ℕ) → Err (index, None) ≡ offset_in cmp k (view_of node) → None ≡ found_value cmp k within
      miss-value index e =
          let r = placed-err (place_of cmp k (items_of (view_of node))) (children_of (view_of node)) index None e in
          let g = gap-in-leaf index (view_of node) here node-ascends r.0 r.1 in
          sym (ap (option_map (λ p. p.1)) g.2)

  -- the empty tree
  pub no-root : s.root ≡ None → (a : Address) → a ≡ record { id = NOWHERE; offset = Some 0 } → IsGapBy cmp k s a
  no-root none a is =
      rw is (record {
        place = 0;
        is = rw none refl;
        absent = rw none refl;
        gap = leaf-back-at ord laws s tree (record { id = NOWHERE; offset = Some 0 }) 0 (rw none ((refl, refl, refl), refl)) (rw none (inr (refl, refl, refl))) refl;
      })

  -- a search under the root is one of the whole tree
  module _ (root : ℕ) (is : s.root ≡ Some root) where
    whole-pairs : pairs ≡ pairs_below s root
    whole-pairs = ap (λ t. pairs_under node_at t (nodes_map.len s.nodes)) is

    place-whole : (start index : ℕ) → HasPlace s (address_before root) start → start + index ≡ index
    place-whole start index begins =
        let z : start ≡ 0 = sym (begins.only 0 (start-place ord laws s tree root is)) in
        omega arith

    gap-whole : (a : Address) → IsGapUnder cmp k s root a → IsGapBy cmp k s a
    gap-whole a g = record {
      place = g.index;
      is = ap (place_of cmp k) whole-pairs ∙ g.is;
      absent = ap (found cmp k) whole-pairs ∙ g.absent;
      gap = subst (λ p. IsLeafBackAt s p a) (place-whole g.start g.index g.begins) g.gap;
    }

    pub address-whole : (r : Result Address Address) → IsAddressUnder cmp k s root r → IsAddressBy cmp k s r
    address-whole (Ok a) f = f.whole
    address-whole (Err a) g = gap-whole a g

-- a key that was sought may replace the equal one, or be inserted at the gap
module _ {K V : Type 0} (cmp : K → K → Ordering) (k : K) (laws : IsTotalOrder cmp) (s : TreeState K V) (tree : IsBTree cmp s) where
  -- an offset of a leaf at the place of an absent key is the key's gap
  pub gap-at : (a : Address) (place : ℕ) → IsValidIn s a → place_of cmp k (pairs_of s) ≡ Err place → IsPlaceIn s a place → IsLeafAddressIn s a
      → IsSome a.offset → IsGapAt cmp k s a
  gap-at a place valid is at in_leaf back =
      record {
        valid = valid;
        fits = record {
          place = place;
          has = has-place cmp laws s tree a place at;
          fits =
              subst (λ p. KeyFits cmp k p (pairs_of s)) (before-from_Err cmp k (pairs_of s) place is)
              (KeyFits-before cmp laws k (pairs_of s) tree.ascends (found-from_Err cmp k (pairs_of s) place is));
        };
        is = is;
        in_leaf = in_leaf;
        back = back;
        listed = (leaf-back-at cmp laws s tree a place at in_leaf back).listed;
      }

  -- the item that a search by a key finds is the item of that key
  pub found-at : (a : Address) → IsFoundBy cmp k s a → IsFoundAt cmp k s a
  found-at a f = record {
    replaces = record {
      occupied = f.here.occupied;
      place = f.place;
      has = f.here.has;
      replaces = key-replaces cmp k laws (pairs_of s) f.place tree.ascends f.is;
    };
    is = f.is;
    here = f.here;
    item = f.item;
    same = f.same;
    listed = f.listed;
  }

  pub address-of : (r : Result Address Address) → IsAddressBy cmp k s r → IsAddressOf cmp k s r
  address-of (Ok a) f = found-at a f
  address-of (Err a) g = gap-at a g.place g.gap.valid g.is g.gap.has.at g.gap.in_leaf g.gap.back

  -- the same among the pairs under a node
  pub address-in : (id : ℕ) → IsUsed s id → (r : Result Address Address) → IsAddressUnder cmp k s id r → IsAddressIn cmp k s id r
  address-in id used (Ok a) f = record {
    start = f.start;
    begins = f.begins;
    index = f.index;
    is = f.is;
    pair = f.pair;
    item = f.item;
    found = found-at a f.whole;
  }
  address-in id used (Err a) g = record {
    start = g.start;
    begins = g.begins;
    index = g.index;
    is = g.is;
    gap = g.gap;
    fits = λ f. record { place = g.start + g.index; has = g.gap.has; fits = fits-whole cmp laws s tree id used k g.start g.index g.begins g.is f };
  }
