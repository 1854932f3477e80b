-- An item removed from an internal node, with the item before it put in its place, and the leaf's underflow fixed: the
-- tree afterwards. `removed-from-internal` is the law.
use Rattle.btree_ext.proofs.Common.{◌≡◌, ◌≢◌, ◌∙◌, ◌+◌, ◌<◌, ◌≤◌, ℕ, zero, suc, inl, inr, List, length, set, Option, Some, None, IsSome, IsTrue, refl, sym, ap, subst, option_and_then, option_map, slice_get, arith, ◌^◌, slice_get_within, IsTotalOrder, remove, Ordering, Address, Node, view_of, is_internal, with_other_item, NodeMap, View, leaf, item_in, items_of, children_of, address_at, IsPlace, IsValid, HasItems, WritesNode, TreeState, IsBTree, IsOffByOneAt, IsPlaceIn, IsValidIn, item_of, node_map, pairs_of, IsWellFormed, positions-addressed, item-within, TakesLast, HasRoom, IsRebalanced, IsInnerAt, IsRemoved, LeadsBehind}
use Rattle.std.specs.FinMap as map
use Rattle.btree_laws.specs.AddressLaws.{IsPlaced}
use Rattle.btree_laws.specs.Focus.TreePositions.{HasPosition, IsAddressed}
use Rattle.btree_laws.specs.Place.{IsOccupied}
use Rattle.btree_laws.specs.WellFormed.{IsNearlySized, IsOffByOne}
use Rattle.btree_laws.proofs.Places.InNode.{leaf-along}
use Rattle.btree_laws.proofs.Places.OfTree.{well-on}
use Rattle.btree_laws.proofs.Removal.FromInternal.{RemovedInner, inner-item, inner-removed, place-item}
use Rattle.btree_laws.proofs.Trees.Density.{height-low}
use Rattle.btree_laws.proofs.Trees.Numbers.{less-or, same-node}
use Rattle.btree_laws.proofs.Trees.States.{is-off, pairs-off}
use Rattle.btree_raw.proofs.SingleNodeLemmas.{remade-other}
use Rattle.btree_raw.proofs.UpwardLemmas.{put-used}
use Rattle.btree_find.specs.Navigation.{IsItemAddress, IsItemAt, IsItemBefore, LeadsBefore}
use Rattle.btree_find.proofs.PlaceLemmas.{in-tree, only, place-there, placed, root-there}
use Rattle.btree_find.proofs.PreviousLemmas.{before-below}
use Rattle.btree_ext.specs.Remove.{ReplacesInner}
use Rattle.btree_ext.proofs.RemoveLemmas.{as-many-used, no-leaf, one-left, remove-shorter, removed-by}

-- the node of a view
pub node-of : {K V : Type 0} (o : Option (Node K V)) (v : View (K × V)) → option_map view_of o ≡ Some v
    → (node : Node K V) × (o ≡ Some node) × (view_of node ≡ v)
node-of None v e = absurd (cc)
node-of (Some node) v e = let same : view_of node ≡ v = cc in (node, refl, same)

-- an item is at no offset -1
back-occupied : {A : Type 0} (node_at : NodeMap A) (id : ℕ) (o : Option ℕ) → IsOccupied node_at id o → IsSome o
back-occupied node_at id None at = absurd at
back-occupied node_at id (Some o) at = refl

-- a node with another item in the place of one has these items
pub other-items : {A : Type 0} (index : ℕ) (x : A) (v : View A)
    → HasItems v (with_other_item index x v) (set (items_of v) index x)
other-items index x v =
    let r = remade-other index x v in
    record { kind = r.kind; parent = r.parent; children = r.children_are; items_are = r.items_are }

-- in a leaf a later offset has no smaller place
module _ {A : Type 0} (node_at : NodeMap A) (levels root : ℕ) (xs : List A) (p : IsPlaced node_at levels root xs)
    (id : ℕ) (parent : Option ℕ) (items : List A) (e : node_at id ≡ Some (leaf parent items)) where
  later-place : (top o q : ℕ) → o ≤ top → top ≤ length items → IsPlace node_at (Some root) xs id (Some o) q
      → (r : ℕ) × (q ≤ r) × IsPlace node_at (Some root) xs id (Some top) r
  later-place zero o q low high i =
      let z : o ≡ 0 = omega arith in
      (q, omega arith, subst (λ k. IsPlace node_at (Some root) xs id (Some k) q) z i)
  later-place (suc top) o q low high i = elim (less-or o (suc top)) [
    | inl less ↦
        let r = later-place top o q (omega arith) (omega arith) i in
        let n = r.1 in
        (suc r.0, omega arith, leaf-along node_at levels root xs p id parent items e top (omega arith) r.0 r.2)
    | inr other ↦ elim other [
      | inl same ↦ (q, omega arith, subst (λ k. IsPlace node_at (Some root) xs id (Some k) q) same i)
      | inr more ↦ absurd (omega arith)
    ]
  ]

module _ {K V : Type 0} {cmp : K → K → Ordering} (laws : IsTotalOrder cmp) {old : TreeState K V} (tree : IsBTree cmp old)
    {a : Address} {left : ℕ} (inner : IsInnerAt old a left) {taken : TreeState K V} {y : K × V} {leaf_id : ℕ}
    (takes : TakesLast old taken left y leaf_id) where
  abbrev node_at : NodeMap (K × V)
  node_at = node_map old

  abbrev xs : List (K × V)
  xs = pairs_of old

  abbrev shorter : View (K × V)
  shorter = leaf takes.parent (remove takes.items takes.index)

  -- the node of the item is not the leaf
  pub apart : a.id ≢ leaf_id
  apart e =
      let same : inner.node ≡ leaf takes.parent takes.items =
      same-node node_at a.id inner.node (leaf takes.parent takes.items) inner.here (ap (λ n. node_at n) e ∙ takes.here) in
      let kind : IsTrue (is_internal (leaf takes.parent takes.items)) = subst (λ v. IsTrue (is_internal v)) same inner.kind in
      absurd (cc)

  a-is : a ≡ address_at a.id inner.index
  a-is = λ i. record { id = a.id; offset = inner.offset i }

  item-here : item_in (node_at a.id) inner.index ≡ Some inner.item
  item-here = ap (λ v. item_in v inner.index) inner.here ∙ inner.stands

  abbrev root-is : (root : ℕ) × (old.root ≡ Some root)
  root-is = root-there cmp laws old tree a.id inner.node inner.here

  abbrev root : ℕ
  root = root-is.0

  pub well : IsWellFormed cmp node_at (Some root) old.len xs
  well = subst (λ t. IsWellFormed cmp node_at t old.len xs) root-is.1 tree

  -- the last item under the child is the item before it
  leads : LeadsBefore old (address_at a.id inner.index) (Some (address_at leaf_id takes.index))
  leads =
      let n = node-of (map.get old.nodes a.id) inner.node inner.here in
      let child : Some left ≡ slice_get (children_of (view_of n.0)) inner.index =
      sym (ap (λ v. slice_get (children_of v) inner.index) n.2 ∙ inner.child) in
      before-below cmp laws old tree a.id inner.index n.0 n.1 left child (leaf_id, suc takes.index) takes.ends
      (address_at leaf_id takes.index) takes.index refl refl

  -- the place of the item is one after that of the last item under the child
  pub record HasPredecessor : Type 0 where
    pub before : ℕ
    pub at : IsPlaceIn old a (suc before)
    pub item : IsItemAddress old before (address_at leaf_id takes.index)

  pub predecessor : HasPredecessor
  predecessor =
      let v : IsValidIn old a =
      subst (λ (b : Address). IsValidIn old b) (sym a-is)
      (inl (item-within node_at inner.index inner.item (node_at a.id) item-here)) in
      let p = place-there cmp laws old tree a v in
      by p.0 p.1 (leads p.0 (subst (λ (b : Address). IsPlaceIn old b p.0) a-is p.1))
    where
      by : (place : ℕ) → IsPlaceIn old a place → IsItemBefore old place (Some (address_at leaf_id takes.index))
          → HasPredecessor
      by zero i b = let e : Some (address_at leaf_id takes.index) ≡ None = b in absurd (cc)
      by (suc before) i b =
          let t : IsItemAt old before (Some (address_at leaf_id takes.index)) = b in
          record { before = before; at = i; item = t.here }

  abbrev before : ℕ
  before = predecessor.before

  leaf-place : IsPlace node_at (Some root) xs leaf_id (Some takes.index) before
  leaf-place = in-tree cmp laws old tree root root-is.1 leaf_id (Some takes.index) before predecessor.item.has.at

  inner-place : IsPlace node_at (Some root) xs a.id (Some inner.index) (suc before)
  inner-place =
      in-tree cmp laws old tree root root-is.1 a.id (Some inner.index) (suc before)
      (subst (λ (b : Address). IsPlaceIn old b (suc before)) a-is predecessor.at)

  -- so the tree has a pair
  pub inner-counted : 0 < old.len
  inner-counted =
      let at =
      place-item node_at root xs a.id inner.index inner.item inner.node inner.here inner.stands (suc before) inner-place in
      let n = slice_get_within xs (suc before) inner.item at in
      let c = well.counted in
      omega arith

  -- the item after it stays where it is
  module _ (next : Address) (behind : LeadsBehind old a next) where
    after : IsItemAddress old (suc (suc before)) next
    after = (behind (suc before) predecessor.at).here

    next-back : IsSome next.offset
    next-back = back-occupied node_at next.id next.offset after.occupied

    pub behind-elsewhere : (next.id ≢ leaf_id) × (next ≢ address_at a.id inner.index)
    behind-elsewhere = (λ e. by e next.offset after.occupied after.has.at, λ e. itself e)
      where
        itself : next ≡ address_at a.id inner.index → ⊥
        itself e =
            let i : IsPlaceIn old a (suc (suc before)) =
            subst (λ (b : Address). IsPlaceIn old b (suc (suc before))) (e ∙ sym a-is) after.has.at in
            let same = only cmp laws old tree a (suc before) (suc (suc before)) predecessor.at i in
            absurd (omega arith)

        by : next.id ≡ leaf_id → (o : Option ℕ) → IsOccupied node_at next.id o
            → IsPlace node_at old.root xs next.id o (suc (suc before)) → ⊥
        by e None occupied i = occupied
        by e (Some o) occupied i =
            let got : slice_get takes.items o ≡ Some occupied.0 =
            sym (ap (λ v. item_in v o) (ap (λ n. node_at n) e ∙ takes.here)) ∙ occupied.1 in
            let within = slice_get_within takes.items o occupied.0 got in
            let count = takes.count in
            let p = placed cmp laws old tree root root-is.1 in
            let at-next = in-tree cmp laws old tree root root-is.1 leaf_id (Some o) (suc (suc before))
            (subst (λ n. IsPlace node_at old.root xs n (Some o) (suc (suc before))) e i) in
            let l =
            later-place node_at (map.len old.nodes) root xs p leaf_id takes.parent takes.items takes.here takes.index o
            (suc (suc before)) (omega arith) (omega arith) at-next in
            let same = p.one leaf_id (Some takes.index) l.0 before l.2 leaf-place in
            let more = l.1 in
            absurd (omega arith)

    next-on : HasPosition (K × V) node_at root None next (suc (suc before))
    next-on =
        well-on cmp laws node_at root xs None next (suc (suc before)) old.len well
        (record {
          valid = subst (λ t. IsValid node_at t next.id next.offset) root-is.1 after.valid;
          at_place = in-tree cmp laws old tree root root-is.1 next.id next.offset (suc (suc before)) after.has.at;
          item = tt;
        })

    -- the last item is in the node now
    module _ (small : old.len < 2 ^ 64) (mid : TreeState K V) (w : View (K × V)) (put : WritesNode (node_map taken) (node_map mid) a.id w)
        (has : HasItems inner.node w (set (items_of inner.node) inner.index y)) (top : mid.root ≡ old.root) where
      low : well.formed.height < 32
      low = height-low (K × V) node_at root xs well.formed (let c = well.counted in omega arith)

      mid-root : mid.root ≡ Some root
      mid-root = top ∙ root-is.1

      abbrev removed-inner : RemovedInner cmp laws node_at root old.len xs well low (node_map taken) (node_map mid) leaf_id
          takes.parent takes.items takes.index before y takes.here takes.last leaf-place takes.writes a.id inner.index
          inner.item inner.node w inner.here apart inner.stands inner-place put has (remove xs (suc before))
      removed-inner =
          inner-removed cmp laws node_at root old.len xs well low (node_map taken) (node_map mid) leaf_id takes.parent
          takes.items takes.index before y takes.here takes.last leaf-place takes.writes a.id inner.index inner.item
          inner.node w inner.here apart inner.stands inner-place put has

      abbrev off : IsOffByOne cmp (node_map mid) root leaf_id (remove xs (suc before))
      off = removed-inner.tree

      listed : slice_get xs (suc before) ≡ Some inner.item
      listed =
          inner-item cmp laws node_at root old.len xs well low (node_map taken) (node_map mid) leaf_id takes.parent
          takes.items takes.index before y takes.here takes.last leaf-place takes.writes a.id inner.index inner.item
          inner.node w inner.here apart inner.stands inner-place put has

      mid-pairs : pairs_of mid ≡ remove xs (suc before)
      mid-pairs = pairs-off cmp mid root leaf_id (remove xs (suc before)) mid-root off

      -- what `rebalance` requires
      pub inner-off : IsOffByOneAt cmp mid leaf_id
      inner-off = is-off cmp mid root leaf_id (remove xs (suc before)) mid-root off

      there : IsAddressed (K × V) (node_map mid) root (remove xs (suc before)) None next (suc before)
      there =
          positions-addressed (K × V) (node_map mid) root (remove xs (suc before)) None next (IsNearlySized root leaf_id)
          (suc before) off.rooted
          (removed-inner.later None next (suc before) (omega arith) behind-elsewhere.0 behind-elsewhere.1 next-on)

      pub inner-valid : IsValidIn mid next
      inner-valid = subst (λ t. IsValid (node_map mid) t next.id next.offset) (sym mid-root) there.valid

      abbrev pub inner-room : HasRoom (node_map mid) leaf_id
      inner-room = record {
        node = shorter;
        here = put.others leaf_id (λ e. apart (sym e)) ∙ takes.writes.here;
        room =
            let n = remove-shorter takes.items takes.index y takes.last in
            let m = (well.formed.sized leaf_id (leaf takes.parent takes.items) takes.here).1 in
            omega arith;
      }

      next-place : IsPlaceIn mid next (suc before)
      next-place =
          subst (λ l. IsPlace (node_map mid) mid.root l next.id next.offset (suc before)) (sym mid-pairs)
          (subst (λ t. IsPlace (node_map mid) t (remove xs (suc before)) next.id next.offset (suc before)) (sym mid-root)
          there.at_place)

      had : item_of old a ≡ Some inner.item
      had = ap (option_and_then (item_in (node_at a.id))) inner.offset ∙ item-here

      as-many : map.len mid.nodes ≡ map.len old.nodes
      as-many =
          as-many-used cmp old mid root well
          (λ n. put-used (node_map taken) (node_map mid) a.id inner.node w
          (takes.writes.others a.id apart ∙ inner.here) put n
          ∙ put-used node_at (node_map taken) leaf_id (leaf takes.parent takes.items) shorter takes.here takes.writes n)

      -- after the underflow is fixed
      pub removed-from-internal : (new : TreeState K V) (b : Address) → mid.len + 1 ≡ old.len → mid.kept ≡ old.kept
          → IsRebalanced mid new leaf_id cmp next b → ReplacesInner old new cmp a left b → IsRemoved old new cmp a inner.item b
      removed-from-internal new b len uncounted r replaced =
          removed-by cmp old mid root well laws root-is.1 top leaf_id (suc before) a next inner.item off removed-inner.height_is
          shorter inner-room.here inner-room.room removed-inner.within_strain as-many had predecessor.at listed next-place
          next-back new b len uncounted r (λ at. absurd (no-leaf old a root root-is.1 left inner at))
          (λ other is. subst (λ n. ReplacesInner old new cmp a n b) (one-left old a left other inner is) replaced)
