-- Between the public definitions of a tree and a focus at one of its nodes.
use Rattle.btree_laws.proofs.Common.{◌≡◌, ◌≢◌, ◌<◌, ◌≤◌, [], ◌∙◌, ◌+◌, ℕ, suc, inl, inr, List, Some, None, refl, sym, ap, subst, arith, append-nil, nat_tests, NodeMap, View, most_of, size_of, IsNode, IsExemptNode, one, times_listed, Holds, IsFilled, IsFilledBelow, Subtree, count_at, id_of, items_under, most_at, times_under, view_at, Represents, numbers_under, Path, AreFilled, Frame, HoldsAbove, frame_id, frame_view, least_at, parent_above, root_above, times_above, times_in_siblings, top, under, IsNearlySized, IsRooted, IsSized, least_of, times_used, IsUnsizedFocus, IsFocus}
use Rattle.btree_laws.specs.WellFormed.{excess_allowed, least_allowed}
use Rattle.btree_laws.proofs.Paths.Frames.{one-other, one-self, one-zero, times_in-is, top-view}
use Rattle.btree_laws.proofs.Trees.Numbers.{numbers-subtree, same-or, times-has, used-low, used-one, zero-or}
use Rattle.btree_laws.proofs.Trees.Sizes.{above-sized, below-filled, below-middle, frame-most, frame-size, frames-filled, least-low, least-other, least-root, root-there, view-most, view-size}
use Rattle.btree_laws.proofs.Trees.Subtrees.{subtree-of, represents-of}
use Rattle.btree_laws.proofs.Paths.UnsizedFocus.{AtNode, AtRoot, unsized-at, unsized-root, unsized-focus, focus-unsized}
use Rattle.btree_laws.proofs.Trees.SubtreePlaces.{focused}

module _ (root exempt : ℕ) where
  -- the bounds if one node may be off by one
  least-exempt : (id : ℕ) → id ≡ exempt → suc (least_allowed root exempt id) ≡ least_of root exempt
  least-exempt id e = elim (same-or exempt root) [ inl s ↦ grind (arith, nat_tests) | inr s ↦ grind (arith, nat_tests) ]

  module _ {A : Type 0} (id : ℕ) (v : View A) (away : id ≢ exempt) where
    is-away : least_allowed root exempt id ≡ least_of root id
    is-away = grind (arith, nat_tests)

    no-more : excess_allowed exempt id ≡ 0
    no-more = grind (arith, nat_tests)

    nearly-sized : IsNearlySized root exempt id v → IsSized root id v
    nearly-sized z = let a = is-away in let b = no-more in let z0 = z.0 in let z1 = z.1 in (omega arith, omega arith)

    sized-nearly : IsSized root id v → IsNearlySized root exempt id v
    sized-nearly z = let a = is-away in let b = no-more in let z0 = z.0 in let z1 = z.1 in (omega arith, omega arith)

excess-exempt : (exempt id : ℕ) → id ≡ exempt → excess_allowed exempt id ≡ 1
excess-exempt exempt id e = grind (arith, nat_tests)

module _ (A : Type 0) (node_at : NodeMap A) where
  -- each node of the path, and below its other children, has its number of items, if each used number's node has it
  pub above-filled : (h : ℕ) (c : Path A h) (hole : ℕ) → HoldsAbove node_at c hole
      → ((n : ℕ) (v : View A) → 0 < times_above n c → node_at n ≡ Some v → IsSized (root_above c hole) n v)
      → ((n : ℕ) → one n hole + times_above n c ≤ 1) → AreFilled c
  above-filled h top hole d z o = tt
  above-filled h (under f c) hole d z o =
      let r : ℕ = root_above c (frame_id f) in
      let own = one-self (frame_id f) in
      let t0 = times_in-is A h (frame_id f) f in
      let s = z (frame_id f) (frame_view (parent_above c) f hole) (omega arith) d.0 in
      let s0 = s.0 in
      let s1 = s.1 in
      let n = frame-size A h (parent_above c) f hole in
      let l = frame-most A h (parent_above c) f hole in
      let w = low c (λ k. let q = o k in let u = times_in-is A h k f in omega arith) in (
        (omega arith, omega arith),
        frames-filled A node_at h f d.1 (λ n q v e.
            let k = root-there A (suc h) c (frame_id f) in
            let away : n ≢ r = λ same.
            let q2 : 0 < times_in_siblings r f = subst (λ m. 0 < times_in_siblings m f) same q in
            let u = times_in-is A h r f in let p = o r in omega arith in
            let y = z n v (let u = times_in-is A h n f in omega arith) e in
            let y0 = y.0 in
            let x = least-other r n away in
            (omega arith, y.1)),
        above-filled (suc h) c (frame_id f) d.2 (λ n v q e. z n v (omega arith) e)
            (λ n. let q = o n in let u = times_in-is A h n f in omega arith),
      )
    where
      low : (c : Path A (suc h)) → ((n : ℕ) → one n (frame_id f) + times_above n c ≤ 1)
          → least_at c ≤ least_of (root_above c (frame_id f)) (frame_id f)
      low top w = let e = least-root (frame_id f) (frame_id f) refl in omega arith
      low (under g c') w =
          let r : ℕ = root_above c' (frame_id g) in
          let k = root-there A (suc (suc h)) c' (frame_id g) in
          let e =
          least-other r (frame_id f) (λ same. let q = w r in let u = times_in-is A (suc h) r g in let i : one r
          (frame_id f) ≡ 1 = subst (λ m. one r m ≡ 1) (sym same) (one-self r) in omega arith) in
          omega arith

  -- the public definition, from a focus at any node
  module _ (is_right : (id : ℕ) → View A → Type 0) (root : ℕ) (xs : List A) where
    pub rooted-unsized : (h : ℕ) (c : Path A h) (t : Subtree A h) → IsUnsizedFocus A node_at [] root xs h c t
        → ((n : ℕ) (v : View A) → node_at n ≡ Some v → is_right n v) → IsRooted is_right node_at root xs
    rooted-unsized h c t s z =
        let r = unsized-root A node_at [] root xs h c t s in
        let list : xs ≡ items_under A r.height r.subtree = r.focused.list ∙ append-nil (items_under A r.height r.subtree) in
        let top = r.focused.root_is in
        record {
          height = r.height;
          represents = subst (λ i. Represents node_at r.height None i xs) top
              (subst (λ ys. Represents node_at r.height None (id_of A r.height r.subtree) ys) (sym list)
              (represents-of A node_at r.height None r.subtree r.focused.inner));
          sized = z;
          once = λ n.
              let b =
              subst (λ i. times_listed n (numbers_under node_at r.height i) ≡ times_under A r.height n r.subtree) top
              (numbers-subtree A node_at n r.height None r.subtree r.focused.inner) in
              let o = r.focused.once n in
              omega arith;
        }

    -- and the converse
    pub unsized-rooted : IsRooted is_right node_at root xs → AtRoot A node_at [] root xs
    unsized-rooted r =
        let s = subtree-of A node_at r.height None root xs r.represents in
        record {
          height = r.height;
          subtree = s.subtree;
          focused = record {
            above = tt;
            inner = s.holds;
            once = λ n.
                let b =
                subst (λ i. times_listed n (numbers_under node_at r.height i) ≡ times_under A r.height n s.subtree) s.here
                (numbers-subtree A node_at n r.height None s.subtree s.holds) in
                let o = r.once n in
                omega arith;
            list = sym s.list ∙ sym (append-nil (items_under A r.height s.subtree));
            root_is = s.here;
          };
        }

    pub node-rooted : IsRooted is_right node_at root xs → (id : ℕ) → 0 < times_used (node_at id) → AtNode A node_at [] root xs id
    node-rooted r id u =
        let s = unsized-rooted r in
        unsized-at A node_at [] root xs id s.height top s.subtree s.focused (let o = s.focused.once id in omega arith)

    -- if each node but this one has its number of items, there is a focus at it
    pub whole-node : (id : ℕ) (s : AtNode A node_at [] root xs id)
        → ((n : ℕ) (v : View A) → n ≢ id → node_at n ≡ Some v → IsSized root n v)
        → IsFocus A node_at [] root xs s.height s.path s.subtree
    whole-node id s z = at s.height s.path s.subtree s.here s.focused
      where
        at : (h : ℕ) (c : Path A h) (t : Subtree A h) → id_of A h t ≡ id → IsUnsizedFocus A node_at [] root xs h c t
            → IsFocus A node_at [] root xs h c t
        at h c t here w =
            let sum : (n : ℕ) → times_above n c + times_under A h n t ≤ 1 = λ n. let o = w.once n in
            let k = used-low (node_at n) in omega arith in
            let topone : (n : ℕ) → one n (id_of A h t) ≤ times_under A h n t = λ n. times-has A h n t in
            let root-in = root-there A h c (id_of A h t) in
            let r-is = w.root_is in
            let z2 : (n : ℕ) (v : View A) → n ≢ id_of A h t → node_at n ≡ Some v → IsSized root n v =
            λ n v ne e. z n v (λ s. ne (s ∙ sym here)) e in
            unsized-focus A node_at [] root xs h c t w
            (above-filled h c (id_of A h t) w.above
            (λ n v q e. subst (λ m. IsSized m n v) (sym r-is)
            (z2 n v (λ s. let a = sum n in let b = topone n in let k : one n (id_of A h t) ≡ 1 =
            subst (λ m. one n m ≡ 1) s (one-self n) in omega arith) e))
            (λ n. let a = sum n in let b = topone n in omega arith))
            (below-filled A node_at h (parent_above c) t w.inner
            (λ n no q v e.
            let y = z2 n v (one-zero n (id_of A h t) no) e in
            let away : n ≢ root = λ same.
            let k : 1 ≤ one root (id_of A h t) + times_above root c =
            subst (λ m. 1 ≤ one m (id_of A h t) + times_above m c) r-is root-in in
            let a = sum root in let b = topone root in
            let q2 : 0 < times_under A h root t = subst (λ m. 0 < times_under A h m t) same q in
            let n2 : one root (id_of A h t) ≡ 0 = subst (λ m. one m (id_of A h t) ≡ 0) same no in
            omega arith in
            let x = least-other root n away in
            let y0 = y.0 in
            (omega arith, y.1))
            (λ n. let a = sum n in omega arith))

  module _ (root : ℕ) (xs : List A) where
    -- each node but the one at the hole has its number of items
    pub whole-sized : (h : ℕ) (c : Path A h) (t : Subtree A h) → IsFocus A node_at [] root xs h c t → (n : ℕ) (v : View A)
        → n ≢ id_of A h t → node_at n ≡ Some v → IsSized root n v
    whole-sized h c t w n v ne e =
        let o = w.once n in
        let u = used-one (node_at n) v e in
        elim (zero-or (times_above n c)) [
          | inl none ↦
              let m =
              below-middle A node_at h (parent_above c) t w.inner w.below n (one-other n (id_of A h t) ne)
              (omega arith) v e in
              let y = least-low root n in
              let m0 = m.0 in
              (omega arith, m.1)
          | inr some ↦ subst (λ r. IsSized r n v) w.root_is
              (above-sized A node_at h c (id_of A h t) w.above w.filled n v some e)
        ]

    -- and that one has as many items as its subtree's root
    pub top-counts : (h : ℕ) (c : Path A h) (t : Subtree A h) → IsFocus A node_at [] root xs h c t → (n : ℕ) (v : View A)
        → n ≡ id_of A h t → node_at n ≡ Some v
        → (size_of v ≡ count_at A h t) × (most_of v ≡ most_at h)
    top-counts h c t w n v same e =
        let d = top-view A node_at h (parent_above c) t w.inner in
        let e2 : node_at n ≡ Some (view_at A h (parent_above c) t) = rw same d in
        let is : v ≡ view_at A h (parent_above c) t = cc in
        (ap size_of is ∙ view-size A h (parent_above c) t, ap most_of is ∙ view-most A h (parent_above c) t)

    pub under-apart : (h : ℕ) (f : Frame A h) (c : Path A (suc h)) (t : Subtree A h)
        → IsFocus A node_at [] root xs h (under f c) t → id_of A h t ≢ root
    under-apart h f c t w same =
        let k = root-there A (suc h) c (frame_id f) in
        let k2 : 1 ≤ one root (frame_id f) + times_above root c =
        subst (λ m. 1 ≤ one m (frame_id f) + times_above m c) w.root_is k in
        let o = w.once root in
        let q = used-low (node_at root) in
        let u = times_in-is A h root f in
        let i : one root (id_of A h t) ≡ 1 = subst (λ m. one root m ≡ 1) (sym same) (one-self root) in
        let b = times-has A h root t in
        omega arith

    -- no node is above the root, and no other node is the root
    pub least-top : (h : ℕ) (c : Path A h) (t : Subtree A h) → IsFocus A node_at [] root xs h c t → (n : ℕ)
        → n ≡ id_of A h t → least_of root n ≡ least_at c
    least-top h top t w n same = least-root root n (same ∙ w.root_is)
    least-top h (under f c) t w n same = least-other root n (λ e. under-apart h f c t w (sym same ∙ e))

    -- a well formed tree has a focus at each of its nodes
    pub node-at : IsRooted (IsSized root) node_at root xs → (id : ℕ) → 0 < times_used (node_at id) → IsNode A node_at root xs id
    node-at r id u =
        let s = node-rooted (IsSized root) root xs r id u in
        let w = whole-node (IsSized root) root xs id s (λ n v ne e. r.sized n v e) in
        record {
          focus = record { height = s.height; path = s.path; subtree = s.subtree; here = s.here; whole = w };
          sized = at s.height s.path s.subtree w;
        }
      where
        at : (h : ℕ) (c : Path A h) (t : Subtree A h) → IsFocus A node_at [] root xs h c t
            → IsFilled (least_at c) h (count_at A h t)
        at h c t w =
            let v = top-view A node_at h (parent_above c) t w.inner in
            let z = r.sized (id_of A h t) (view_at A h (parent_above c) t) v in
            let n = view-size A h (parent_above c) t in
            let l = view-most A h (parent_above c) t in
            let z0 = z.0 in
            let z1 = z.1 in
            let y = least-top h c t w (id_of A h t) refl in
            (omega arith, omega arith)

    -- and the converse
    pub rooted-node : (id : ℕ) → IsNode A node_at root xs id → IsRooted (IsSized root) node_at root xs
    rooted-node id n =
        rooted-unsized (IsSized root) root xs n.focus.height n.focus.path n.focus.subtree
        (focus-unsized A node_at [] root xs n.focus.height n.focus.path n.focus.subtree n.focus.whole)
        (at n.focus.height n.focus.path n.focus.subtree n.focus.whole n.sized)
      where
        at : (h : ℕ) (c : Path A h) (t : Subtree A h) → IsFocus A node_at [] root xs h c t
            → IsFilled (least_at c) h (count_at A h t) → (k : ℕ) (v : View A) → node_at k ≡ Some v → IsSized root k v
        at h c t w z k v e = elim (same-or k (id_of A h t)) [
          | inl same ↦
              let m = top-counts h c t w k v same e in
              let m0 = m.0 in
              let m1 = m.1 in
              let y = least-top h c t w k same in
              let z0 = z.0 in
              let z1 = z.1 in
              (omega arith, omega arith)
          | inr ne ↦ whole-sized h c t w k v ne e
        ]

    -- a tree that is off by one at a node has a focus at that node
    pub off-at : (exempt : ℕ) → IsRooted (IsNearlySized root exempt) node_at root xs → 0 < times_used (node_at exempt)
        → IsExemptNode A node_at root xs exempt
    off-at exempt r u =
        let s = node-rooted (IsNearlySized root exempt) root xs r exempt u in
        let w =
        whole-node (IsNearlySized root exempt) root xs exempt s (λ n v ne e. nearly-sized root exempt n v ne (r.sized n v e)) in
        let b = at s.height s.path s.subtree s.here w in
        record {
          focus = record { height = s.height; path = s.path; subtree = s.subtree; here = s.here; whole = w };
          low = b.0;
          high = b.1;
        }
      where
        at : (h : ℕ) (c : Path A h) (t : Subtree A h) → id_of A h t ≡ exempt → IsFocus A node_at [] root xs h c t
            → (least_at c ≤ suc (count_at A h t)) × (count_at A h t ≤ suc (most_at h))
        at h c t here w =
            let v = top-view A node_at h (parent_above c) t w.inner in
            let z = r.sized (id_of A h t) (view_at A h (parent_above c) t) v in
            let n = view-size A h (parent_above c) t in
            let l = view-most A h (parent_above c) t in
            let z0 = z.0 in
            let z1 = z.1 in
            let y = least-exempt root exempt (id_of A h t) here in
            let x = excess-exempt exempt (id_of A h t) here in
            let q = least-top h c t w (id_of A h t) refl in
            let p : least_of root exempt ≡ least_at c = subst (λ m. least_of root m ≡ least_at c) here q in
            (omega arith, omega arith)

    -- and the converse
    pub rooted-off : (exempt : ℕ) → IsExemptNode A node_at root xs exempt → IsRooted (IsNearlySized root exempt) node_at root xs
    rooted-off exempt n =
        rooted-unsized (IsNearlySized root exempt) root xs n.focus.height n.focus.path n.focus.subtree
        (focus-unsized A node_at [] root xs n.focus.height n.focus.path n.focus.subtree n.focus.whole)
        (at n.focus.height n.focus.path n.focus.subtree n.focus.here n.focus.whole n.low n.high)
      where
        at : (h : ℕ) (c : Path A h) (t : Subtree A h) → id_of A h t ≡ exempt → IsFocus A node_at [] root xs h c t
            → least_at c ≤ suc (count_at A h t) → count_at A h t ≤ suc (most_at h)
            → (k : ℕ) (v : View A) → node_at k ≡ Some v → IsNearlySized root exempt k v
        at h c t here w low high k v e = elim (same-or k (id_of A h t)) [
          | inl same ↦
              let m = top-counts h c t w k v same e in
              let m0 = m.0 in
              let m1 = m.1 in
              let y = least-exempt root exempt k (same ∙ here) in
              let x = excess-exempt exempt k (same ∙ here) in
              let q = least-top h c t w (id_of A h t) refl in
              let p : least_of root exempt ≡ least_at c = subst (λ m. least_of root m ≡ least_at c) here q in
              (omega arith, omega arith)
          | inr ne ↦ sized-nearly root exempt k v (λ s. ne (s ∙ sym here)) (whole-sized h c t w k v ne e)
        ]

    -- the whole tree with its focus at the root, which is `height` levels above the leaves
    pub record HasSubtree (height : ℕ) : Type 0 where
      pub subtree : Subtree A height
      pub at_root : id_of A height subtree ≡ root
      pub holds : Holds A node_at height None subtree
      pub once : (n : ℕ) → times_under A height n subtree ≡ times_used (node_at n)
      pub sized : IsFilled 1 height (count_at A height subtree)
      pub below : IsFilledBelow A height subtree
      pub represents : items_under A height subtree ≡ xs

    -- a tree with a root is one subtree
    pub rooted-subtree : (r : IsRooted (IsSized root) node_at root xs) → HasSubtree r.height
    unfolding unsized-rooted
    rooted-subtree r = at r.height s.subtree s.focused
        (whole-node (IsSized root) root xs root
        (record { height = s.height; path = top; subtree = s.subtree; here = s.focused.root_is; focused = s.focused })
        (λ n v ne e. r.sized n v e))
      where
        s : AtRoot A node_at [] root xs
        s = unsized-rooted (IsSized root) root xs r

        at : (h : ℕ) (t : Subtree A h) → IsUnsizedFocus A node_at [] root xs h top t → IsFocus A node_at [] root xs h top t
            → HasSubtree h
        at h t focused w =
            let v = top-view A node_at h None t w.inner in
            let z = r.sized (id_of A h t) (view_at A h None t) v in
            let n = view-size A h None t in
            let l = view-most A h None t in
            let z0 = z.0 in
            let z1 = z.1 in
            let y = least-root root (id_of A h t) w.root_is in
            record {
              subtree = t;
              at_root = w.root_is;
              holds = w.inner;
              once = λ n. omega (arith, w.once n);
              sized = (omega arith, omega arith);
              below = w.below;
              represents = sym (w.list ∙ append-nil (items_under A h t));
            }
