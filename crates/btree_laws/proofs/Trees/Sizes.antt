-- The numbers of items of nodes, for a map of nodes and for the subtrees that it holds.
use Rattle.btree_laws.proofs.Common.{◌≡◌, ◌≢◌, ◌<◌, ◌≤◌, ◌++◌, ◌∷◌, [], ◌∙◌, ◌+◌, ℕ, zero, suc, inl, inr, List, length, map, Option, Some, refl, sym, ap, subst, arith, nat_tests, AllByRecursion, NodeMap, View, most_of, parent_of, size_of, one, total, Holds, IsFilled, IsFilledBelow, Subtree, count_at, id_of, most_at, times_under, view_at, Path, AreFilled, Frame, HoldsAbove, SiblingsFilled, SiblingsHold, at_branch, at_first, frame_count, frame_id, frame_view, least_at, parent_above, root_above, times_above, times_in_siblings, top, under, IsSized, least_of}
use Rattle.btree_laws.proofs.Paths.Frames.{one-other, one-self, times_in-is, top-view}
use Rattle.btree_laws.proofs.Trees.Numbers.{same-or, zero-or}

-- no node needs more than three items
pub least-low : (root id : ℕ) → least_of root id ≤ 3
least-low root id = elim (same-or id root) [ inl e ↦ grind (arith, nat_tests) | inr e ↦ grind (arith, nat_tests) ]

-- the root needs one item
pub least-root : (root id : ℕ) → id ≡ root → least_of root id ≡ 1
least-root root id e = grind (arith, nat_tests)

-- any other node needs three items
pub least-other : (root id : ℕ) → id ≢ root → least_of root id ≡ 3
least-other root id e = grind (arith, nat_tests)

module _ (A : Type 0) where
  -- a subtree's root has the parent that is given to it
  pub view-parent : (h : ℕ) (p : Option ℕ) (t : Subtree A h) → parent_of (view_at A h p t) ≡ p
  view-parent zero p t = refl
  view-parent (suc h) p t = refl

  pub branch-sizes : (h : ℕ) (bs : List (A × Subtree A h)) → length
      (map {B = A} (λ b. b.0) (map {B = A × ℕ} (λ (b : A × Subtree A h). (b.0, id_of A h b.1)) bs)) ≡ length bs
  branch-sizes h [] = refl
  branch-sizes h (b ∷ bs) = ap suc (branch-sizes h bs)

  -- the items of an internal node are those of its subtree's branches
  pub view-items : (h : ℕ) (bs : List (A × Subtree A h)) → map {B = A} (λ b. b.0)
      (map {B = A × ℕ} (λ (b : A × Subtree A h). (b.0, id_of A h b.1)) bs) ≡ map {B = A} (λ (b : A × Subtree A h). b.0) bs
  view-items h [] = refl
  view-items h (b ∷ bs) = ap (λ l. b.0 ∷ l) (view-items h bs)

  -- a subtree's root has as many items as the subtree counts there
  pub view-size : (h : ℕ) (p : Option ℕ) (t : Subtree A h) → size_of (view_at A h p t) ≡ count_at A h t
  view-size zero p t = refl
  view-size (suc h) p t = branch-sizes h t.2

  -- a subtree's root may have as many items as its height allows
  pub view-most : (h : ℕ) (p : Option ℕ) (t : Subtree A h) → most_of (view_at A h p t) ≡ most_at h
  view-most zero p t = refl
  view-most (suc h) p t = refl

  pub frame-parent : (h : ℕ) (p : Option ℕ) (f : Frame A h) (hole : ℕ) → parent_of (frame_view p f hole) ≡ p
  frame-parent h p (at_first n back) hole = refl
  frame-parent h p (at_branch n first front x back) hole = refl

  item-count : (h : ℕ) (front : List (A × Subtree A h)) (x : A) (hole : ℕ) (back : List (A × Subtree A h))
      → length (map {B = A} (λ b. b.0)
      (map {B = A × ℕ} (λ (b : A × Subtree A h). (b.0, id_of A h b.1)) front ++ (x, hole) ∷ map {B = A × ℕ}
      (λ (b : A × Subtree A h). (b.0, id_of A h b.1)) back)) ≡ length front + suc (length back)
  item-count h [] x hole back = let e = branch-sizes h back in omega arith
  item-count h (b ∷ front) x hole back = let e = item-count h front x hole back in omega arith

  pub frame-size : (h : ℕ) (p : Option ℕ) (f : Frame A h) (hole : ℕ) → size_of (frame_view p f hole) ≡ frame_count f
  frame-size h p (at_first n back) hole = branch-sizes h back
  frame-size h p (at_branch n first front x back) hole = item-count h front x hole back

  pub frame-most : (h : ℕ) (p : Option ℕ) (f : Frame A h) (hole : ℕ) → most_of (frame_view p f hole) ≡ 7
  frame-most h p (at_first n back) hole = refl
  frame-most h p (at_branch n first front x back) hole = refl

  -- the root is the root of the subtree or above it
  pub root-there : (h : ℕ) (c : Path A h) (id : ℕ) → 1 ≤ one (root_above c id) id + times_above (root_above c id) c
  root-there h top id = omega (arith, one-self id)
  root-there h (under f c) id =
      omega (arith, root-there (suc h) c (frame_id f), times_in-is A h (root_above c (frame_id f)) f)

  module _ (node_at : NodeMap A) where
    -- the number of items is right for a node that is not the root
    abbrev pub IsMiddle : ℕ → Type 0
    IsMiddle n = (v : View A) → node_at n ≡ Some v → (3 ≤ size_of v) × (size_of v ≤ most_of v)

    pub top-filled : (h : ℕ) (p : Option ℕ) (t : Subtree A h) → Holds A node_at h p t → IsMiddle (id_of A h t)
        → IsFilled 3 h (count_at A h t)
    top-filled h p t d m =
        let r = m (view_at A h p t) (top-view A node_at h p t d) in
        let s = view-size h p t in
        let l = view-most h p t in
        (omega arith, omega arith)

    pub top-middle : (h : ℕ) (p : Option ℕ) (t : Subtree A h) → Holds A node_at h p t → IsFilled 3 h (count_at A h t)
        → IsMiddle (id_of A h t)
    top-middle h p t d z v e =
        let w = top-view A node_at h p t d in
        let is : v ≡ view_at A h p t = cc in
        let s : size_of v ≡ count_at A h t = ap size_of is ∙ view-size h p t in
        let l : most_of v ≡ most_at h = ap most_of is ∙ view-most h p t in
        let z0 = z.0 in let z1 = z.1 in
        (omega arith, omega arith)

    branches-filled : (h : ℕ) (p : Option ℕ)
        → ((t : Subtree A h) → Holds A node_at h p t → ((n : ℕ) → 0 < times_under A h n t → IsMiddle n) → IsFilled 3 h
        (count_at A h t) × IsFilledBelow A h t)
        → (bs : List (A × Subtree A h)) → AllByRecursion (λ b. Holds A node_at h p b.1) bs
        → ((n : ℕ) → 0 < total (λ b. times_under A h n b.1) bs → IsMiddle n)
        → AllByRecursion (λ b. IsFilled 3 h (count_at A h b.1) × IsFilledBelow A h b.1) bs
    branches-filled h p each [] d m = tt
    branches-filled h p each (b ∷ bs) d m = (
      each b.1 d.0 (λ n q. m n (omega arith)),
      branches-filled h p each bs d.1
          (λ n q. m n (omega arith)),
    )

    pub tree-filled : (h : ℕ) (p : Option ℕ) (t : Subtree A h) → Holds A node_at h p t
        → ((n : ℕ) → 0 < times_under A h n t → IsMiddle n) → IsFilled 3 h (count_at A h t) × IsFilledBelow A h t
    tree-filled zero p t d m = (top-filled zero p t d (m t.0 (let e = one-self t.0 in omega arith)), tt)
    tree-filled (suc h) p t d m =
        let first = tree-filled h (Some t.0) t.1 d.1 (λ n q. m n (omega arith)) in (
          top-filled (suc h) p t d (m t.0 (let e = one-self t.0 in omega arith)),
          (
            first.0,
            first.1,
            branches-filled h (Some t.0) (tree-filled h (Some t.0)) t.2 d.2
                (λ n q. m n (omega arith)),
          ),
        )

    pub below-filled : (h : ℕ) (p : Option ℕ) (t : Subtree A h) → Holds A node_at h p t
        → ((n : ℕ) → one n (id_of A h t) ≡ 0 → 0 < times_under A h n t → IsMiddle n)
        → ((n : ℕ) → times_under A h n t ≤ 1) → IsFilledBelow A h t
    below-filled zero p t d m o = tt
    below-filled (suc h) p t d m o =
        let k : (n : ℕ) → 0 < times_under A h n t.1 + total (λ b. times_under A h n b.1) t.2 → IsMiddle n =
        λ n q. m n (let s = o n in omega arith) (omega arith) in
        let first = tree-filled h (Some t.0) t.1 d.1 (λ n q. k n (omega arith)) in
        (first.0, first.1, branches-filled h (Some t.0) (tree-filled h (Some t.0)) t.2 d.2 (λ n q. k n (omega arith)))

    pub frames-filled : (h : ℕ) (f : Frame A h) → SiblingsHold node_at f → ((n : ℕ) → 0 < times_in_siblings n f → IsMiddle n)
        → SiblingsFilled f
    frames-filled h (at_first i back) d m = branches-filled h (Some i) (tree-filled h (Some i)) back d
        (λ n q. m n (omega arith))
    frames-filled h (at_branch i first front x back) d m =
        let r = tree-filled h (Some i) first d.0 (λ n q. m n (omega arith)) in (
          r.0,
          r.1,
          branches-filled h (Some i) (tree-filled h (Some i)) front d.1 (λ n q. m n (omega arith)),
          branches-filled h (Some i) (tree-filled h (Some i)) back d.2 (λ n q. m n (omega arith)),
        )

    branches-middle : (h : ℕ) (p : Option ℕ)
        → ((t : Subtree A h) → Holds A node_at h p t → IsFilled 3 h (count_at A h t) → IsFilledBelow A h t → (n : ℕ)
        → 0 < times_under A h n t → IsMiddle n)
        → (bs : List (A × Subtree A h)) → AllByRecursion (λ b. Holds A node_at h p b.1) bs
        → AllByRecursion (λ b. IsFilled 3 h (count_at A h b.1) × IsFilledBelow A h b.1) bs
        → (n : ℕ) → 0 < total (λ b. times_under A h n b.1) bs → IsMiddle n
    branches-middle h p each [] d z n q = absurd (omega arith)
    branches-middle h p each (b ∷ bs) d z n q =
        elim (zero-or (times_under A h n b.1)) [
          | inl none ↦ branches-middle h p each bs d.1 z.1 n (omega arith)
          | inr some ↦ each b.1 d.0 z.0.0 z.0.1 n some
        ]

    pub tree-middle : (h : ℕ) (p : Option ℕ) (t : Subtree A h) → Holds A node_at h p t → IsFilled 3 h (count_at A h t)
        → IsFilledBelow A h t → (n : ℕ) → 0 < times_under A h n t → IsMiddle n
    tree-middle zero p t d y z n q =
        elim (same-or n t.0) [
          | inl e ↦ subst (λ k. IsMiddle k) (sym e) (top-middle zero p t d y)
          | inr ne ↦ absurd (let o = one-other n t.0 ne in let k : ⊥ = omega arith in k)
        ]
    tree-middle (suc h) p t d y z n q =
        elim (same-or n t.0) [
          | inl e ↦ subst (λ k. IsMiddle k) (sym e) (top-middle (suc h) p t d y)
          | inr ne ↦
              let o = one-other n t.0 ne in
              elim (zero-or (times_under A h n t.1)) [
                | inl none ↦ branches-middle h (Some t.0) (tree-middle h (Some t.0)) t.2 d.2 z.2 n (omega arith)
                | inr some ↦ tree-middle h (Some t.0) t.1 d.1 z.0 z.1 n some
              ]
        ]

    -- each node below the root of a filled subtree has at least three items
    pub below-middle : (h : ℕ) (p : Option ℕ) (t : Subtree A h) → Holds A node_at h p t → IsFilledBelow A h t → (n : ℕ)
        → one n (id_of A h t) ≡ 0 → 0 < times_under A h n t → IsMiddle n
    below-middle zero p t d z n away q = absurd (omega arith)
    below-middle (suc h) p t d z n away q =
        elim (zero-or (times_under A h n t.1)) [
          | inl none ↦ branches-middle h (Some t.0) (tree-middle h (Some t.0)) t.2 d.2 z.2 n (omega arith)
          | inr some ↦ tree-middle h (Some t.0) t.1 d.1 z.0 z.1 n some
        ]

    pub frames-middle : (h : ℕ) (f : Frame A h) → SiblingsHold node_at f → SiblingsFilled f → (n : ℕ)
        → 0 < times_in_siblings n f → IsMiddle n
    frames-middle h (at_first i back) d z n q = branches-middle h (Some i) (tree-middle h (Some i)) back d z n q
    frames-middle h (at_branch i first front x back) d z n q =
        elim (zero-or (times_under A h n first)) [
          | inl apart ↦ elim (zero-or (total (λ b. times_under A h n b.1) front)) [
            | inl none ↦ branches-middle h (Some i) (tree-middle h (Some i)) back d.2 z.3 n (omega arith)
            | inr some ↦ branches-middle h (Some i) (tree-middle h (Some i)) front d.1 z.2 n some
          ]
          | inr some ↦ tree-middle h (Some i) first d.0 z.0 z.1 n some
        ]

    -- each node of the path, and below its other children, has its number of items, by the nodes or by the
    -- subtrees
    pub above-sized : (h : ℕ) (c : Path A h) (hole : ℕ) → HoldsAbove node_at c hole → AreFilled c → (n : ℕ) (v : View A)
        → 0 < times_above n c → node_at n ≡ Some v → IsSized (root_above c hole) n v
    above-sized h top hole d z n v q e = absurd (omega arith)
    above-sized h (under f c) hole d z n v q e =
        elim (same-or n (frame_id f)) [
          | inl same ↦
              let e2 : node_at n ≡ Some (frame_view (parent_above c) f hole) = rw same d.0 in
              let is : v ≡ frame_view (parent_above c) f hole = cc in
              let s : size_of v ≡ frame_count f = ap size_of is ∙ frame-size h (parent_above c) f hole in
              let l : most_of v ≡ 7 = ap most_of is ∙ frame-most h (parent_above c) f hole in
              let y : least_of (root_above c (frame_id f)) n ≤ least_at c = low c same in
              let z0 = z.0.0 in let z1 = z.0.1 in
              (omega arith, omega arith)
          | inr ne ↦
              let o = one-other n (frame_id f) ne in
              elim (zero-or (times_in_siblings n f)) [
                | inl none ↦ above-sized (suc h) c (frame_id f) d.2 z.2 n v (omega (arith, times_in-is A h n f)) e
                | inr some ↦
                    let m = frames-middle h f d.1 z.1 n some v e in
                    let y = least-low (root_above c (frame_id f)) n in
                    let m0 = m.0 in
                    (omega arith, m.1)
              ]
        ]
      where
        low : (c : Path A (suc h)) → n ≡ frame_id f → least_of (root_above c (frame_id f)) n ≤ least_at c
        low top same = let r = least-root (frame_id f) n same in omega arith
        low (under g c') same = least-low (root_above c' (frame_id g)) n
