-- The nodes needed by the splits that begin at a node with an item too many, counted from it upward.
use Rattle.btree_laws.proofs.Common.{◌≡◌, ◌<◌, ◌≤◌, [], ◌∙◌, ◌+◌, ℕ, zero, suc, List, Some, None, refl, sym, ap, subst, arith, NodeMap, View, most_of, parent_of, size_of, IsUnsizedFocus, path_need_from, path_need, split_need, levels_above, IsNode, Holds, Subtree, count_at, id_of, most_at, view_at, Path, HoldsAbove, depth, fill, frame_count, frame_id, frame_view, parent_above, top, under, times_used, same_Some}
use Rattle.btree_laws.specs.Focus.Need.{IsCountingUpward}
use Rattle.btree_laws.specs.Need.{need_of_split}
use Rattle.btree_laws.proofs.Paths.Parents.{levels-above-is}
use Rattle.btree_laws.proofs.Paths.Frames.{fill-count, fill-id, top-view}
use Rattle.btree_laws.proofs.Paths.Used.{less-no, less-yes}
use Rattle.btree_laws.proofs.Trees.Numbers.{used-one}
use Rattle.btree_laws.proofs.Trees.Sizes.{frame-most, frame-parent, frame-size, view-most, view-parent, view-size}
use Rattle.btree_laws.proofs.Paths.UnsizedFocus.{unsized-up}

module _ (A : Type 0) where
  split_need-path_need : (node_at : NodeMap A) (h n : ℕ) (c : Path A h) (hole : ℕ) → depth c ≤ n → HoldsAbove node_at c hole
      → need_of_split (split_need node_at n) (parent_above c) ≡ path_need c
  split_need-path_need node_at h n top hole le d = refl
  split_need-path_need node_at h zero (under f c) hole le d = absurd (omega arith)
  split_need-path_need node_at h (suc n) (under f c) hole le d =
      let s = frame-size A h (parent_above c) f hole in
      let m = frame-most A h (parent_above c) f hole in
      let p = frame-parent A h (parent_above c) f hole in
      let r = split_need-path_need node_at (suc h) n c (frame_id f) (omega arith) d.2 in
      ap suc (rw (d.0, s, m, p, r) refl)

  -- by the map of nodes, and by the path above
  pub split_need-is : (node_at : NodeMap A) (h n : ℕ) (c : Path A h) (t : Subtree A h) → depth c < n
      → HoldsAbove node_at c (id_of A h t) → Holds A node_at h (parent_above c) t
      → split_need node_at n (id_of A h t) ≡ path_need_from c (count_at A h t)
  split_need-is node_at h zero c t lt a d = absurd (omega arith)
  split_need-is node_at h (suc n) c t lt a d =
      let v = top-view A node_at h (parent_above c) t d in
      let s = view-size A h (parent_above c) t in
      let l = view-most A h (parent_above c) t in
      let p = view-parent A h (parent_above c) t in
      let r = split_need-path_need node_at h n c (id_of A h t) (omega arith) a in
      rw (v, s, l, p, r) refl

  -- the nodes that splits need from a node on are those counted along its path
  pub split_need-node : (node_at : NodeMap A) (root : ℕ) (xs : List A) (id : ℕ) (n : IsNode A node_at root xs id) (most : ℕ) → depth n.focus.path < most
      → split_need node_at most id ≡ path_need_from n.focus.path (count_at A n.focus.height n.focus.subtree)
  split_need-node node_at root xs id n most deep =
      let w = n.focus.whole in
      subst (λ z. split_need node_at most z ≡ path_need_from n.focus.path (count_at A n.focus.height n.focus.subtree)) n.focus.here
      (split_need-is node_at n.focus.height most n.focus.path n.focus.subtree deep w.above w.inner)

  module _ (node_at : NodeMap A) (root : ℕ) (xs : List A) (most : ℕ) where
    -- the count of nodes for splits begins with what the leaf needs
    pub upward-start : (h : ℕ) (c : Path A h) (t : Subtree A h) → IsUnsizedFocus A node_at [] root xs h c t → depth c < most → IsCountingUpward A node_at root xs most (id_of A h t) 0 (split_need node_at most (id_of A h t))
    upward-start h c t s r =
        let e = split_need-is node_at h most c t r s.above s.inner in
        record {
          height = h;
          path = c;
          subtree = t;
          here = refl;
          focused = s;
          left = omega arith;
          room = r;
        }

    module _ (id counted all : ℕ) (s : IsCountingUpward A node_at root xs most id counted all) where
      upward-view : node_at id ≡ Some (view_at A s.height (parent_above s.path) s.subtree)
      upward-view = subst (λ z. node_at z ≡ Some (view_at A s.height (parent_above s.path) s.subtree)) s.here
          (top-view A node_at s.height (parent_above s.path) s.subtree s.focused.inner)

      -- the number at which the count goes on is used
      pub upward-used : 0 < times_used (node_at id)
      upward-used =
          let u = used-one (node_at id) (view_at A s.height (parent_above s.path) s.subtree) upward-view in omega arith

      module _ (v : View A) (e : node_at id ≡ Some v) where
        v-is : v ≡ view_at A s.height (parent_above s.path) s.subtree
        v-is = same_Some v (view_at A s.height (parent_above s.path) s.subtree) (sym e ∙ upward-view)

        size-is : size_of v ≡ count_at A s.height s.subtree
        size-is = ap size_of v-is ∙ view-size A s.height (parent_above s.path) s.subtree

        most-is : most_of v ≡ most_at s.height
        most-is = ap most_of v-is ∙ view-most A s.height (parent_above s.path) s.subtree

        -- at a node with room all are counted
        pub upward-done : size_of v < most_of v → counted ≡ all
        upward-done lt =
            let z0 = size-is in
            let z1 = most-is in
            let l = s.left in
            let q = less-yes (count_at A s.height s.subtree) (most_at s.height) 0 (path_need s.path) (omega arith) in
            omega arith

        full-is : most_of v ≤ size_of v → counted + path_need s.path ≡ all
        full-is le =
            let z0 = size-is in
            let z1 = most-is in
            let l = s.left in
            let q = less-no (count_at A s.height s.subtree) (most_at s.height) 0 (path_need s.path) (omega arith) in
            omega arith

        -- a full root needs two more
        pub upward-root : most_of v ≤ size_of v → parent_of v ≡ None → counted + 2 ≡ all
        upward-root le up = at s.height s.path s.subtree (full-is le) (ap parent_of (sym v-is) ∙ up)
          where
            at : (h : ℕ) (c : Path A h) (t : Subtree A h) → counted + path_need c ≡ all
                → parent_of (view_at A h (parent_above c) t) ≡ None → counted + 2 ≡ all
            at h top t q e = q
            at h (under f c) t q e = let e' = view-parent A h (Some (frame_id f)) t in absurd (cc)

        -- a full node under a parent needs one more, and the parent is next
        pub upward-up : (p : ℕ) → most_of v ≤ size_of v → parent_of v ≡ Some p
            → IsCountingUpward A node_at root xs most p (counted + 1) all × (levels_above node_at most p < levels_above node_at most id)
        upward-up p le up = at s.height s.path s.subtree s.here s.focused (full-is le)
            (ap parent_of (sym v-is) ∙ up) s.room
          where
            at : (h : ℕ) (c : Path A h) (t : Subtree A h) → id_of A h t ≡ id → IsUnsizedFocus A node_at [] root xs h c t
                → counted + path_need c ≡ all → parent_of (view_at A h (parent_above c) t) ≡ Some p
                → depth c < most
                → IsCountingUpward A node_at root xs most p (counted + 1) all × (levels_above node_at most p < levels_above node_at most id)
            at h top t here w q e room = let e' = view-parent A h None t in absurd (cc)
            at h (under f c) t here w q e room =
                let e' = view-parent A h (Some (frame_id f)) t in
                let is : frame_id f ≡ p = same_Some (frame_id f) p (sym e' ∙ e) in
                let fc = fill-count A h f t in
                let tv = top-view A node_at h (Some (frame_id f)) t w.inner in
                let r1 =
                levels-above-is A node_at h most (under f c) (id_of A h t) (view_at A h (Some (frame_id f)) t)
                (omega arith) tv (view-parent A h (Some (frame_id f)) t) w.above in
                let r2 =
                levels-above-is A node_at (suc h) most c (frame_id f) (frame_view (parent_above c) f (id_of A h t))
                (omega arith) w.above.0 (frame-parent A h (parent_above c) f (id_of A h t)) w.above.2 in
                let r1' : levels_above node_at most id ≡ suc (depth c) =
                subst (λ k. levels_above node_at most k ≡ suc (depth c)) here r1 in
                let r2' : levels_above node_at most p ≡ depth c =
                subst (λ k. levels_above node_at most k ≡ depth c) is r2 in
                let nf : path_need_from c (count_at A (suc h) (fill f t)) ≡ path_need_from c (frame_count f) = ap (path_need_from c) fc in (
                  record {
                    height = suc h;
                    path = c;
                    subtree = fill f t;
                    here = fill-id A h f t ∙ is;
                    focused = unsized-up A node_at [] root xs h f c t w;
                    left = omega arith;
                    room = omega arith;
                  },
                  omega arith,
                )
