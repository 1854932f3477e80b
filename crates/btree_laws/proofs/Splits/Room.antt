-- The nodes of a tree with those that an insertion needs: at most a third of the items that there are then, rounded up.
-- An insertion that is refused has no tree, so this is a law of the old tree alone: upward from the node, each level
-- adds its siblings' nodes and the node that its split needs.
use Rattle.btree_laws.proofs.Common.{◌≡◌, ◌<◌, ◌≤◌, ◌++◌, ◌∷◌, [], ◌∙◌, ◌+◌, ◌*◌, ℕ, zero, suc, inl, inr, List, length, None, refl, ap, arith, length-append, append-nil, NodeMap, total, times_listed, numbers_under, split_need, IsUnsizedFocus, path_need, IsNode, Path, AreFilled, Frame, SiblingsFilled, after_in, at_branch, at_first, before_in, depth, fill, frame_count, least_at, top, under, IsFilledBelow, Subtree, count_at, id_of, items_under, later_items, most_at, times_used}
use Rattle.std.proofs.lemmas.Bool.{cases_lt}
use Rattle.btree_laws.proofs.Paths.Frames.{fill-items, total-append}
use Rattle.btree_laws.proofs.Paths.UnsizedFocus.{focus-unsized, unsized-up}
use Rattle.btree_laws.proofs.Paths.Used.{less-no, less-yes}
use Rattle.btree_laws.proofs.Splits.Need.{split_need-node}
use Rattle.btree_laws.proofs.Trees.Density.{nodes_in, node-numbers, three-each, three-items}
use Rattle.btree_laws.proofs.Trees.Numbers.{numbers-subtree}

module _ (A : Type 0) where
  -- how many nodes are under a node without one of its children
  abbrev beside : (h : ℕ) → Frame A h → ℕ
  beside h (at_first id back) = total (λ (b : A × Subtree A h). nodes_in A h b.1) back
  beside h (at_branch id first front x back) =
      nodes_in A h first + total (λ (b : A × Subtree A h). nodes_in A h b.1) front + total (λ (b : A × Subtree A h). nodes_in A h b.1) back

  -- how many items are under it
  abbrev others : (h : ℕ) → Frame A h → ℕ
  others h f = length (before_in f) + length (after_in f)

  fill-nodes : (h : ℕ) (f : Frame A h) (t : Subtree A h) → nodes_in A (suc h) (fill f t) ≡ suc (beside h f + nodes_in A h t)
  fill-nodes h (at_first id back) t = omega arith
  fill-nodes h (at_branch id first front x back) t =
      omega (arith, total-append (λ (b : A × Subtree A h). nodes_in A h b.1) front ((x, t) ∷ back))

  fill-length : (h : ℕ) (f : Frame A h) (t : Subtree A h) → length (items_under A (suc h) (fill f t)) ≡ others h f + length (items_under A h t)
  fill-length h f t =
      let e = ap length (fill-items A h f t) in
      omega (arith, e, length-append (before_in f) (items_under A h t ++ after_in f), length-append (items_under A h t) (after_in f))

  -- the siblings have at most a third as many nodes as items
  three-beside : (h : ℕ) (f : Frame A h) → SiblingsFilled f → 3 * beside h f + frame_count f ≤ others h f
  three-beside h (at_first id back) d = omega (arith, three-each A h back (three-items A h) d)
  three-beside h (at_branch id first front x back) d =
      let a = three-items A h first d.0.0 d.1 in
      let b = three-each A h front (three-items A h) d.2 in
      let c = three-each A h back (three-items A h) d.3 in
      let l = length-append (items_under A h first ++ later_items A h front) (x ∷ []) in
      let m = length-append (items_under A h first) (later_items A h front) in
      omega arith

  -- the same of a node whose own number of items is left open
  three-below : (h : ℕ) (t : Subtree A h) → IsFilledBelow A h t → 3 * nodes_in A h t + count_at A h t ≤ length (items_under A h t) + 3
  three-below zero t d = omega arith
  three-below (suc h) t d =
      let a = three-items A h t.1 d.0.0 d.1 in
      let b = three-each A h t.2 (three-items A h) d.2 in
      let l = length-append (items_under A h t.1) (later_items A h t.2) in
      omega arith

-- how many items the tree under a node at the end of a path may lack to three for each node
abbrev room : {A : Type 0} {height : ℕ} → Path A height → ℕ
room top = 3
room (under frame path) = 1

least-room : {A : Type 0} {height : ℕ} (c : Path A height) → least_at c + room c ≡ 4
least-room top = refl
least-room (under f c) = refl

pub most-seven : (h : ℕ) → 7 ≤ most_at h
most-seven zero = omega arith
most-seven (suc h) = omega arith

module _ (A : Type 0) (node_at : NodeMap A) (root : ℕ) (xs : List A) (count : ℕ)
    (counted : (ids : List ℕ) → ((n : ℕ) → times_listed n ids ≡ times_used (node_at n)) → count ≡ length ids) where
  whole-nodes : (h : ℕ) (t : Subtree A h) → IsUnsizedFocus A node_at [] root xs h top t → count ≡ nodes_in A h t
  whole-nodes h t w =
      counted (numbers_under node_at h (id_of A h t)) (λ n.
      let o = w.once n in
      let e = numbers-subtree A node_at n h None t w.inner in
      omega arith)
      ∙ node-numbers A node_at h None t w.inner

  whole-items : (h : ℕ) (t : Subtree A h) → IsUnsizedFocus A node_at [] root xs h top t → length xs ≡ length (items_under A h t)
  whole-items h t w = ap length (w.list ∙ append-nil (items_under A h t))

  -- from a node that is not split
  kept-upward : (h : ℕ) (c : Path A h) (t : Subtree A h) (more : ℕ) → IsUnsizedFocus A node_at [] root xs h c t → AreFilled c
      → 3 * (nodes_in A h t + more) ≤ length (items_under A h t) + room c → 3 * (count + more) ≤ length xs + 3
  kept-upward h top t more w d q =
      let n = whole-nodes h t w in
      let l = whole-items h t w in
      omega arith
  kept-upward h (under f c) t more w d q =
      let n = fill-nodes A h f t in
      let l = fill-length A h f t in
      let b = three-beside A h f d.1 in
      let low = d.0.0 in
      let r = least-room c in
      kept-upward (suc h) c (fill f t) more (unsized-up A node_at [] root xs h f c t w) d.2 (omega arith)

  -- from a node that is split: its parent gains an item, and is split too if it is full
  split-upward : (h : ℕ) (c : Path A h) (t : Subtree A h) (more : ℕ) → IsUnsizedFocus A node_at [] root xs h c t → AreFilled c
      → 3 * (nodes_in A h t + more + 1) ≤ length (items_under A h t) → 3 * (count + more + path_need c) ≤ length xs + 3
  split-upward h top t more w d q =
      let n = whole-nodes h t w in
      let l = whole-items h t w in
      omega arith
  split-upward h (under f c) t more w d q =
      let n = fill-nodes A h f t in
      let l = fill-length A h f t in
      let b = three-beside A h f d.1 in
      let low = d.0.0 in
      let r = least-room c in
      let up = unsized-up A node_at [] root xs h f c t w in
      elim (cases_lt (frame_count f) 7) [
        | inl less ↦
            let u = less-yes (frame_count f) 7 0 (path_need c) less in
            let k = kept-upward (suc h) c (fill f t) (more + 1) up d.2 (omega arith) in
            omega arith
        | inr full ↦
            let u = less-no (frame_count f) 7 0 (path_need c) (omega arith) in
            let k = split-upward (suc h) c (fill f t) (more + 1) up d.2 (omega arith) in
            omega arith
      ]

  -- three times the nodes, with those for splits from any node, are at most the length and three
  pub need-room : (id : ℕ) (n : IsNode A node_at root xs id) (most : ℕ) → depth n.focus.path < most
      → 3 * (count + split_need node_at most id) ≤ length xs + 3
  need-room id n most deep =
      let h : ℕ = n.focus.height in
      let c : Path A h = n.focus.path in
      let t : Subtree A h = n.focus.subtree in
      let e = split_need-node A node_at root xs id n most deep in
      let w = focus-unsized A node_at [] root xs h c t n.focus.whole in
      let b = three-below A h t n.focus.whole.below in
      let low = n.sized.0 in
      let r = least-room c in
      let m = most-seven h in
      elim (cases_lt (count_at A h t) (most_at h)) [
        | inl less ↦
            let u = less-yes (count_at A h t) (most_at h) 0 (path_need c) less in
            let k = kept-upward h c t 0 w n.focus.whole.filled (omega arith) in
            omega arith
        | inr full ↦
            let u = less-no (count_at A h t) (most_at h) 0 (path_need c) (omega arith) in
            let k = split-upward h c t 0 w n.focus.whole.filled (omega arith) in
            omega arith
      ]
