-- The places around a child of a node: before its subtree and after it. In the node the child's index has the second,
-- and the address before that index, or -1, leads to the first.
use Rattle.btree_laws.proofs.Common.{◌≡◌, ◌<◌, ◌≤◌, ◌++◌, ◌∷◌, [], ◌∙◌, ◌+◌, ℕ, zero, suc, List, length, take, Option, Some, None, refl, sym, ap, subst, arith, length-append, append-nil, slice_get, NodeMap, View, children_in, parent_of, size_of, IsPlaced, levels_above, IsPlace, IsUnsizedFocus, Frame, Path, at_branch, at_first, before_in, depth, fill, frame_id, frame_index, frame_view, items_before, parent_above, under, levels_below, Subtree, count_at, id_of, items_under, later_items, view_at}
use Rattle.btree_laws.proofs.Paths.ChildFocus.{child-at}
use Rattle.btree_laws.proofs.Paths.Frames.{fill-count, fill-id, top-view}
use Rattle.btree_laws.proofs.Paths.Levels.{levels-rooted}
use Rattle.btree_laws.proofs.Paths.Parents.{index-fits, levels-above-is}
use Rattle.btree_laws.proofs.Paths.UnsizedFocus.{unsized-up}
use Rattle.btree_laws.proofs.Places.NodePlaces.{items_upto, unsized-place, unsized-subtree, upto-all}
use Rattle.btree_laws.proofs.Trees.Heights.{levels-is}
use Rattle.btree_laws.proofs.Trees.Sizes.{frame-parent, view-parent, view-size}

take-front : {X : Type 0} (front back : List X) → take (length front) (front ++ back) ≡ front
take-front [] back = refl
take-front (x ∷ front) back = ap (λ l. x ∷ l) (take-front front back)

take-one-more : {X : Type 0} (front : List X) (y : X) (back : List X) (n : ℕ) → n ≡ length front + 1
    → take n (front ++ y ∷ back) ≡ front ++ y ∷ []
take-one-more [] y back zero e = absurd (omega arith)
take-one-more [] y back (suc n) e = let z : n ≡ 0 = omega arith in rw z refl
take-one-more (x ∷ front) y back zero e = absurd (omega arith)
take-one-more (x ∷ front) y back (suc n) e = ap (λ l. x ∷ l) (take-one-more front y back n (omega arith))

module _ (A : Type 0) where
  later-count : (h : ℕ) (front back : List (A × Subtree A h))
      → length (later_items A h (front ++ back)) ≡ length (later_items A h front) + length (later_items A h back)
  later-count h [] back = omega arith
  later-count h (b ∷ front) back =
      let r = later-count h front back in
      let l = length-append (b.0 ∷ items_under A h b.1) (later_items A h (front ++ back)) in
      let m = length-append (b.0 ∷ items_under A h b.1) (later_items A h front) in
      omega arith

  -- the items of a filled node before the index of its hole
  upto-hole : (h : ℕ) (f : Frame A h) (t : Subtree A h)
      → items_upto A (suc h) (fill f t) (frame_index f) ≡ length (before_in f) + length (items_under A h t)
  upto-hole h (at_first id back) t = let e = ap length (append-nil (items_under A h t)) in omega arith
  upto-hole h (at_branch id first front x back) t =
      let e : take (length front + 1) (front ++ (x, t) ∷ back) ≡ front ++ (x, t) ∷ [] =
      take-one-more front (x, t) back (length front + 1) refl in
      let a = ap (λ l. length (items_under A h first ++ later_items A h l)) e in
      let b = length-append (items_under A h first) (later_items A h (front ++ (x, t) ∷ [])) in
      let c = later-count h front ((x, t) ∷ []) in
      let d = length-append (x ∷ items_under A h t) [] in
      let l = length-append (items_under A h first ++ later_items A h front) (x ∷ []) in
      let m = length-append (items_under A h first) (later_items A h front) in
      omega arith

  -- before the item in front of the hole there is one item fewer
  upto-item-before : (h id : ℕ) (first : Subtree A h) (front : List (A × Subtree A h)) (x : A) (back : List (A × Subtree A h)) (t : Subtree A h)
      → suc (items_upto A (suc h) (fill (at_branch id first front x back) t) (length front)) ≡ length (before_in (at_branch id first front x back))
  upto-item-before h id first front x back t =
      let a = ap (λ l. length (items_under A h first ++ later_items A h l)) (take-front front ((x, t) ∷ back)) in
      let b = length-append (items_under A h first ++ later_items A h front) (x ∷ []) in
      omega arith

module _ {A : Type 0} (node_at : NodeMap A) (levels root : ℕ) (xs : List A) where
  abbrev pub HasPlaceAt : (id : ℕ) → Option ℕ → ℕ → Type 0
  HasPlaceAt id offset place = IsPlace node_at (Some root) xs id offset place

  -- a child at an index of a node, with the places before and after its subtree
  pub record ChildPlaces (id index child : ℕ) : Type 0 where
    pub node : View A
    pub here : node_at child ≡ Some node
    pub parent : parent_of node ≡ Some id
    pub before : ℕ
    pub after : ℕ
    pub starts : HasPlaceAt child None before
    pub ends : HasPlaceAt child (Some (size_of node)) after
    pub at_index : HasPlaceAt id (Some index) after
    pub at_first : index ≡ 0 → HasPlaceAt id None before
    pub after_item : (i : ℕ) → index ≡ suc i → (place : ℕ) × (before ≡ suc place) × HasPlaceAt id (Some i) place
    -- the child is a level lower
    pub one_lower : suc (levels_below node_at levels child) ≡ levels_below node_at levels id
    pub lower : levels_below node_at levels child < levels_below node_at levels id
    pub higher : levels_above node_at levels id < levels_above node_at levels child

  module _ (p : IsPlaced node_at levels root xs) where
    module _ (h : ℕ) (f : Frame A h) (c : Path A (suc h)) (t : Subtree A h)
        (w : IsUnsizedFocus A node_at [] root xs h (under f c) t) where
      full : IsUnsizedFocus A node_at [] root xs (suc h) c (fill f t)
      full = unsized-up A node_at [] root xs h f c t w

      from-start : length (items_before (under f c)) ≡ length (items_before c) + length (before_in f)
      from-start = length-append (items_before c) (before_in f)

      at-end : HasPlaceAt (id_of A h t) (Some (size_of (view_at A h (Some (frame_id f)) t)))
          (length (items_before (under f c)) + length (items_under A h t))
      at-end =
          let e = view-size A h (Some (frame_id f)) t in
          subst (λ n. HasPlaceAt (id_of A h t) (Some n) (length (items_before (under f c)) + length (items_under A h t))) (sym e)
          (subst (λ n. HasPlaceAt (id_of A h t) (Some (count_at A h t)) (length (items_before (under f c)) + n)) (upto-all A h t)
          (unsized-place A node_at [] root xs h (under f c) t w (count_at A h t) (omega arith)))

      at-hole : HasPlaceAt (frame_id f) (Some (frame_index f)) (length (items_before (under f c)) + length (items_under A h t))
      at-hole =
          let n : length (items_before c) + items_upto A (suc h) (fill f t) (frame_index f)
          ≡ length (items_before (under f c)) + length (items_under A h t) =
          omega (arith, upto-hole A h f t, from-start) in
          let i = fill-id A h f t in
          let fits = index-fits A h f in
          let count = fill-count A h f t in
          subst (λ n. HasPlaceAt (frame_id f) (Some (frame_index f)) n) n
          (subst (λ i. HasPlaceAt i (Some (frame_index f)) (length (items_before c) + items_upto A (suc h) (fill f t) (frame_index f))) i
          (unsized-place A node_at [] root xs (suc h) c (fill f t) full (frame_index f) (omega arith)))

    first-at : (h : ℕ) (f : Frame A h) (c : Path A (suc h)) (t : Subtree A h) → IsUnsizedFocus A node_at [] root xs h (under f c) t
        → frame_index f ≡ 0 → HasPlaceAt (frame_id f) None (length (items_before (under f c)))
    first-at h (at_first id back) c t w z =
        let n : length (items_before c) ≡ length (items_before c ++ []) = sym (ap length (append-nil (items_before c))) in
        subst (λ n. HasPlaceAt id None n) n
        (items_under A (suc h) (id, t, back), unsized-subtree A node_at [] root xs (suc h) c (id, t, back) (full h (at_first id back) c t w))
    first-at h (at_branch id first front x back) c t w z = absurd (omega arith)

    after-at : (h : ℕ) (f : Frame A h) (c : Path A (suc h)) (t : Subtree A h) → IsUnsizedFocus A node_at [] root xs h (under f c) t
        → (i : ℕ) → frame_index f ≡ suc i
        → (place : ℕ) × (length (items_before (under f c)) ≡ suc place) × HasPlaceAt (frame_id f) (Some i) place
    after-at h (at_first id back) c t w i z = absurd (omega arith)
    after-at h (at_branch id first front x back) c t w i z =
        let f : Frame A h = at_branch id first front x back in
        let same : length front ≡ i = omega arith in
        let u = upto-item-before A h id first front x back t in
        let s = from-start h f c t w in
        let count = fill-count A h f t in
        let place : ℕ = length (items_before c) + items_upto A (suc h) (fill f t) (length front) in (
          place,
          omega arith,
          subst (λ o. HasPlaceAt id (Some o) place) same
              (unsized-place A node_at [] root xs (suc h) c (fill f t) (full h f c t w) (length front) (omega arith)),
        )

    module _ (h : ℕ) (f : Frame A h) (c : Path A (suc h)) (t : Subtree A h)
        (w : IsUnsizedFocus A node_at [] root xs h (under f c) t) where
      few : suc (depth c + suc h) ≤ levels
      few = let l = levels-rooted A node_at root xs (λ id node. Unit {0}) p.rooted (suc h) c (fill f t) (full h f c t w) in
          let m = p.low in
          omega arith

      one-down : suc (levels_below node_at levels (id_of A h t)) ≡ levels_below node_at levels (frame_id f)
      one-down =
          let low = few in
          let a = levels-is A node_at h levels (Some (frame_id f)) t (omega arith) w.inner in
          let g = full h f c t w in
          let b = levels-is A node_at (suc h) levels (parent_above c) (fill f t) (omega arith) g.inner in
          let i : levels_below node_at levels (id_of A (suc h) (fill f t)) ≡ levels_below node_at levels (frame_id f) =
          ap (levels_below node_at levels) (fill-id A h f t) in
          omega arith

      levels-up : levels_above node_at levels (frame_id f) < levels_above node_at levels (id_of A h t)
      levels-up =
          let low = few in
          let v = top-view A node_at h (Some (frame_id f)) t w.inner in
          let a =
          levels-above-is A node_at h levels (under f c) (id_of A h t) (view_at A h (Some (frame_id f)) t) (omega arith) v
          (view-parent A h (Some (frame_id f)) t) w.above in
          let b =
          levels-above-is A node_at (suc h) levels c (frame_id f) (frame_view (parent_above c) f (id_of A h t)) (omega arith) w.above.0
          (frame-parent A h (parent_above c) f (id_of A h t)) w.above.2 in
          omega arith

      around : ChildPlaces (frame_id f) (frame_index f) (id_of A h t)
      around =
          record {
            node = view_at A h (Some (frame_id f)) t;
            here = top-view A node_at h (Some (frame_id f)) t w.inner;
            parent = view-parent A h (Some (frame_id f)) t;
            before = length (items_before (under f c));
            after = length (items_before (under f c)) + length (items_under A h t);
            starts = (items_under A h t, unsized-subtree A node_at [] root xs h (under f c) t w);
            ends = at-end h f c t w;
            at_index = at-hole h f c t w;
            at_first = first-at h f c t w;
            after_item = after-at h f c t w;
            one_lower = one-down;
            lower = (let d = one-down in omega arith);
            higher = levels-up;
          }

    -- a child is a node of the tree, one level below its parent
    pub child-places : (id index child : ℕ) → slice_get (children_in (node_at id)) index ≡ Some child → ChildPlaces id index child
    child-places id index child e =
        let c = child-at A node_at root xs (λ id node. Unit {0}) p.rooted id index child e in
        subst (λ i. ChildPlaces i index child) c.above
        (subst (λ k. ChildPlaces (frame_id c.frame) k child) c.at
        (subst (λ n. ChildPlaces (frame_id c.frame) (frame_index c.frame) n) c.here
        (around c.height c.frame c.path c.subtree c.focused)))

    -- an address has one place, so a place before or after a child leads to the node, and back
    module _ (id index child : ℕ) (e : slice_get (children_in (node_at id)) index ≡ Some child) where
      places : ChildPlaces id index child
      places = child-places id index child e

      -- the place past the end of a child is that of its index in the parent
      pub up-from-end : (node : View A) → node_at child ≡ Some node → (q : ℕ) → HasPlaceAt child (Some (size_of node)) q → HasPlaceAt id (Some index) q
      up-from-end node at q i =
          let here = places.here in
          let same : places.node ≡ node = cc in
          let ends : HasPlaceAt child (Some (size_of node)) places.after = subst (λ v. HasPlaceAt child (Some (size_of v)) places.after) same places.ends in
          subst (λ n. HasPlaceAt id (Some index) n) (p.one child (Some (size_of node)) places.after q ends i) places.at_index

      -- the place of an index in a node is that past the end of the child there
      pub down-to-end : (node : View A) → node_at child ≡ Some node → (q : ℕ) → HasPlaceAt id (Some index) q → HasPlaceAt child (Some (size_of node)) q
      down-to-end node at q i =
          let here = places.here in
          let same : places.node ≡ node = cc in
          subst (λ n. HasPlaceAt child (Some (size_of node)) n) (p.one id (Some index) places.after q places.at_index i)
          (subst (λ v. HasPlaceAt child (Some (size_of v)) places.after) same places.ends)

      -- the place before a first child is the place before its parent
      pub up-from-first : index ≡ 0 → (q : ℕ) → HasPlaceAt child None q → HasPlaceAt id None q
      up-from-first z q i = subst (λ n. HasPlaceAt id None n) (p.one child None places.before q places.starts i) (places.at_first z)

      -- the place before a node is the place before its first child
      pub down-to-first : index ≡ 0 → (q : ℕ) → HasPlaceAt id None q → HasPlaceAt child None q
      down-to-first z q i = subst (λ n. HasPlaceAt child None n) (p.one id None places.before q (places.at_first z) i) places.starts

      -- the place before any other child is right after that of the item before it
      pub up-to-item : (i : ℕ) → index ≡ suc i → (q : ℕ) → HasPlaceAt child None q
          → (place : ℕ) × (q ≡ suc place) × HasPlaceAt id (Some i) place
      up-to-item i z q s =
          let r = places.after_item i z in
          let same = p.one child None places.before q places.starts s in
          (r.0, sym same ∙ r.1, r.2)

      -- right after the place of an item is the place before the child after it
      pub down-from-item : (i : ℕ) → index ≡ suc i → (q : ℕ) → HasPlaceAt id (Some i) q → HasPlaceAt child None (suc q)
      down-from-item i z q s =
          let r = places.after_item i z in
          let same = p.one id (Some i) r.0 q r.2 s in
          subst (λ n. HasPlaceAt child None n) (r.1 ∙ ap suc same) places.starts
