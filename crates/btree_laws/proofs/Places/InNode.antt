-- The places in one node: along a leaf, and at the two ends of the root; and the index of a node in its parent.
use Rattle.btree_laws.proofs.Common.{◌≡◌, ◌<◌, ◌≤◌, ◌∙◌, ◌+◌, [], ℕ, zero, suc, List, length, Option, Some, None, sym, ap, subst, arith, append-nil, slice_get, NodeMap, View, leaf, children_in, parent_of, size_of, IsPlaced, IsUnsizedFocus, Path, frame_id, frame_index, parent_above, top, under, Subtree, count_at, id_of, items_under, view_at, items_before}
use Rattle.btree_laws.proofs.Paths.Frames.{top-view}
use Rattle.btree_laws.proofs.Paths.FromRoot.{node-rooted}
use Rattle.btree_laws.proofs.Paths.Parents.{index-here}
use Rattle.btree_laws.proofs.Paths.UnsizedFocus.{AtNode}
use Rattle.btree_laws.proofs.Places.ChildPlaces.{HasPlaceAt}
use Rattle.btree_laws.proofs.Places.NodePlaces.{items_upto, unsized-place, unsized-subtree, upto-all}
use Rattle.btree_laws.proofs.Trees.Numbers.{used-there}
use Rattle.btree_laws.proofs.Trees.Sizes.{view-parent, view-size}

module _ {A : Type 0} (node_at : NodeMap A) (levels root : ℕ) (xs : List A) where
  -- the places of a leaf of these items: before it, and at each offset
  record LeafPlaces (id : ℕ) (items : List A) : Type 0 where
    start : ℕ
    before : HasPlaceAt node_at levels root xs id None start
    at : (o : ℕ) → o ≤ length items → HasPlaceAt node_at levels root xs id (Some o) (start + o)

  module _ (p : IsPlaced node_at levels root xs) where
    at-node : (id : ℕ) (v : View A) → node_at id ≡ Some v → AtNode A node_at [] root xs id
    at-node id v e = node-rooted A node_at (λ id node. Unit {0}) root xs p.rooted id (used-there node_at id v e)

    module _ (id : ℕ) (parent : Option ℕ) (items : List A) (e : node_at id ≡ Some (leaf parent items)) where
      leaf-by : (h : ℕ) (c : Path A h) (t : Subtree A h) → id_of A h t ≡ id → IsUnsizedFocus A node_at [] root xs h c t → LeafPlaces id items
      leaf-by zero c t here w =
          let d = w.inner in
          let e2 : node_at t.0 ≡ Some (leaf parent items) = rw here e in
          let same : t.1 ≡ items = cc in
          subst (λ i. LeafPlaces i items) here
          (record {
            start = length (items_before c);
            before = (items_under A zero t, unsized-subtree A node_at [] root xs zero c t w);
            at = λ o low. unsized-place A node_at [] root xs zero c t w o (let n = ap length same in omega arith);
          })
      leaf-by (suc h) c t here w =
          let d = w.inner.0 in
          let e2 : node_at t.0 ≡ Some (leaf parent items) = rw here e in
          absurd (cc)

      leaf-places : LeafPlaces id items
      leaf-places = let n = at-node id (leaf parent items) e in leaf-by n.height n.path n.subtree n.here n.focused

      -- the place before a leaf is that of its first item
      pub leaf-first : (q : ℕ) → HasPlaceAt node_at levels root xs id None q → HasPlaceAt node_at levels root xs id (Some 0) q
      leaf-first q i =
          let l = leaf-places in
          let same : l.start + 0 ≡ q = let s = p.one id None l.start q l.before i in omega arith in
          subst (λ n. HasPlaceAt node_at levels root xs id (Some 0) n) same (l.at 0 (omega arith))

      -- the place of a leaf's first item is that before the leaf
      pub leaf-start : (q : ℕ) → HasPlaceAt node_at levels root xs id (Some 0) q → HasPlaceAt node_at levels root xs id None q
      leaf-start q i =
          let l = leaf-places in
          let same : l.start ≡ q = let s = p.one id (Some 0) (l.start + 0) q (l.at 0 (omega arith)) i in omega arith in
          subst (λ n. HasPlaceAt node_at levels root xs id None n) same l.before

      -- in a leaf the next item has the next place
      pub leaf-along : (o : ℕ) → o < length items → (q : ℕ) → HasPlaceAt node_at levels root xs id (Some o) q
          → HasPlaceAt node_at levels root xs id (Some (suc o)) (suc q)
      leaf-along o low q i =
          let l = leaf-places in
          let s = p.one id (Some o) (l.start + o) q (l.at o (omega arith)) i in
          let same : l.start + suc o ≡ suc q = omega arith in
          subst (λ n. HasPlaceAt node_at levels root xs id (Some (suc o)) n) same (l.at (suc o) (omega arith))

      -- in a leaf the item before has the place before
      pub leaf-back : (o : ℕ) → o < length items → (q : ℕ) → HasPlaceAt node_at levels root xs id (Some (suc o)) q
          → (place : ℕ) × (q ≡ suc place) × HasPlaceAt node_at levels root xs id (Some o) place
      leaf-back o low q i =
          let l = leaf-places in
          let s = p.one id (Some (suc o)) (l.start + suc o) q (l.at (suc o) (omega arith)) i in
          (l.start + o, omega arith, l.at o (omega arith))

    module _ (id : ℕ) (node : View A) (e : node_at id ≡ Some node) where
      module _ (none : parent_of node ≡ None) where
        end-by : (h : ℕ) (c : Path A h) (t : Subtree A h) → id_of A h t ≡ id → IsUnsizedFocus A node_at [] root xs h c t
            → HasPlaceAt node_at levels root xs id (Some (size_of node)) (length xs) × HasPlaceAt node_at levels root xs id None 0
        end-by h top t here w =
            let v = top-view A node_at h None t w.inner in
            let e2 : node_at (id_of A h t) ≡ Some node = rw here e in
            let same : view_at A h None t ≡ node = cc in
            let n : count_at A h t ≡ size_of node = sym (view-size A h None t) ∙ ap size_of same in
            let all : length (items_under A h t) ≡ length xs = sym (ap length (w.list ∙ append-nil (items_under A h t))) in
            let at = unsized-place A node_at [] root xs h top t w (count_at A h t) (omega arith) in
            let sum : 0 + items_upto A h t (count_at A h t) ≡ length xs = omega (arith, upto-all A h t, all) in
            let at2 = subst (λ z. HasPlaceAt node_at levels root xs (id_of A h t) (Some (count_at A h t)) z) sum at in (
              subst (λ i. HasPlaceAt node_at levels root xs i (Some (size_of node)) (length xs)) here
                  (subst (λ z. HasPlaceAt node_at levels root xs (id_of A h t) (Some z) (length xs)) n at2),
              subst (λ i. HasPlaceAt node_at levels root xs i None 0) here (items_under A h t, unsized-subtree A node_at [] root xs h top t w),
            )
        end-by h (under f c) t here w =
            let v = top-view A node_at h (Some (frame_id f)) t w.inner in
            let e2 : node_at (id_of A h t) ≡ Some node = rw here e in
            let same : view_at A h (Some (frame_id f)) t ≡ node = cc in
            let is : parent_of (view_at A h (Some (frame_id f)) t) ≡ None = ap parent_of same ∙ none in
            let q = view-parent A h (Some (frame_id f)) t in
            absurd (cc)

        ends-by : HasPlaceAt node_at levels root xs id (Some (size_of node)) (length xs) × HasPlaceAt node_at levels root xs id None 0
        ends-by = let n = at-node id node e in end-by n.height n.path n.subtree n.here n.focused

        -- the place past the end of the root is that past the end of the list
        pub root-end : (q : ℕ) → HasPlaceAt node_at levels root xs id (Some (size_of node)) q → q ≡ length xs
        root-end q i = p.one id (Some (size_of node)) q (length xs) i ends-by.0

        -- the place before the root is 0
        pub root-start : (q : ℕ) → HasPlaceAt node_at levels root xs id None q → q ≡ 0
        root-start q i = p.one id None q 0 i ends-by.1

      -- a node with a parent is one of its children
      index-by : (parent : ℕ) → parent_of node ≡ Some parent → (h : ℕ) (c : Path A h) (t : Subtree A h) → id_of A h t ≡ id
          → IsUnsizedFocus A node_at [] root xs h c t → (index : ℕ) × (slice_get (children_in (node_at parent)) index ≡ Some id)
      index-by parent up h top t here w =
          let v = top-view A node_at h None t w.inner in
          let e2 : node_at (id_of A h t) ≡ Some node = rw here e in
          let same : view_at A h None t ≡ node = cc in
          let is : parent_of (view_at A h None t) ≡ Some parent = ap parent_of same ∙ up in
          let q = view-parent A h None t in
          absurd (cc)
      index-by parent up h (under f c) t here w =
          let v = top-view A node_at h (Some (frame_id f)) t w.inner in
          let e2 : node_at (id_of A h t) ≡ Some node = rw here e in
          let same : view_at A h (Some (frame_id f)) t ≡ node = cc in
          let is : parent_of (view_at A h (Some (frame_id f)) t) ≡ Some parent = ap parent_of same ∙ up in
          let q = view-parent A h (Some (frame_id f)) t in
          let named : frame_id f ≡ parent = cc in (
            frame_index f,
            subst (λ n. slice_get (children_in (node_at n)) (frame_index f) ≡ Some id) named
                (ap (λ v. slice_get (children_in v) (frame_index f)) w.above.0
                ∙ (index-here A h (parent_above c) f (id_of A h t) ∙ ap (λ i. Some i) here)),
          )

      -- a node with a parent is one of the parent's children
      pub index-in-parent : (parent : ℕ) → parent_of node ≡ Some parent
          → (index : ℕ) × (slice_get (children_in (node_at parent)) index ≡ Some id)
      index-in-parent parent up = let n = at-node id node e in index-by parent up n.height n.path n.subtree n.here n.focused
