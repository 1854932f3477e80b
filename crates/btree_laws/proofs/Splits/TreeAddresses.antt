-- The positions of a tree after a split: at the parent, or under a new root.
use Rattle.btree_laws.proofs.Common.{◌∷◌, [], ℕ, suc, List, Some, None, sym, subst, arith, NodeMap, moved_by_split, Subtree, count_at, id_of, KeepsPositions, all_positions, Path, Frame, fill, fill_two, frame_id, frame_index, top, under, IsFocus}
use Rattle.btree_laws.proofs.Splits.KeptPositions.{Alone, split-places, split-root-places}
use Rattle.btree_laws.proofs.Paths.Frames.{times_in-is}
use Rattle.btree_laws.proofs.Trees.Numbers.{used-low}
use Rattle.btree_laws.proofs.Places.OneList.{positions-close}
use Rattle.btree_laws.proofs.Splits.TwoParts.{Parted, join}

module _ (A : Type 0) (node_at mid : NodeMap A) (spare : List ℕ) (root : ℕ) (xs : List A) where
  pub split-keeps : (h : ℕ) (f : Frame A h) (c : Path A (suc h)) (t : Subtree A h) (j : ℕ) (x : A)
      → IsFocus A node_at (j ∷ spare) root xs h (under f c) t
      → (m : Parted A node_at mid h (Some (frame_id f)) t j x)
      → KeepsPositions (moved_by_split (id_of A h t) j (frame_id f) (frame_index f) (count_at A h m.cut.left))
      (all_positions A h (under f c) t) (all_positions A (suc h) c (fill_two f m.cut.left x m.cut.right))
  split-keeps h f c t j x w m =
      let a = m.cut.left in
      let b = m.cut.right in
      let q = m.cut.cut in
      let o : Alone A h f c a b =
      record {
        sum = λ n. let s = w.once n in let k = used-low (node_at n) in let e = q.numbers n in
            omega (arith, times_in-is A h n f);
      } in
      let r = split-places A h f c a x b o in
      let r1 =
      subst (λ z. KeepsPositions (moved_by_split z (id_of A h b) (frame_id f) (frame_index f) (count_at A h a))
      (all_positions A (suc h) c (fill f (join A h a x b))) (all_positions A (suc h) c (fill_two f a x b))) q.left_id r in
      let r2 =
      subst (λ z. KeepsPositions (moved_by_split (id_of A h t) z (frame_id f) (frame_index f) (count_at A h a))
      (all_positions A (suc h) c (fill f (join A h a x b))) (all_positions A (suc h) c (fill_two f a x b))) q.right_id r1
      in
      subst (λ z. KeepsPositions (moved_by_split (id_of A h t) j (frame_id f) (frame_index f) (count_at A h a)) z
      (all_positions A (suc h) c (fill_two f a x b))) (sym (positions-close A h f c t))
      (subst (λ z. KeepsPositions (moved_by_split (id_of A h t) j (frame_id f) (frame_index f) (count_at A h a))
      (all_positions A (suc h) c (fill f z)) (all_positions A (suc h) c (fill_two f a x b))) (sym q.joined) r2)

  pub split-top-keeps : (h : ℕ) (t : Subtree A h) (j r : ℕ) (x : A) → IsFocus A node_at (j ∷ r ∷ spare) root xs h top t
      → (m : Parted A node_at mid h None t j x)
      → KeepsPositions (moved_by_split (id_of A h t) j r 0 (count_at A h m.cut.left)) (all_positions A h top t)
      (all_positions A (suc h) top (r, m.cut.left, (x, m.cut.right) ∷ []))
  split-top-keeps h t j r x w m =
      let a = m.cut.left in
      let b = m.cut.right in
      let q = m.cut.cut in
      let p =
      split-root-places A h r a x b (λ n. let s = w.once n in let k = used-low (node_at n) in let e = q.numbers n in
      omega arith) in
      let p1 =
      subst (λ z. KeepsPositions (moved_by_split z (id_of A h b) r 0 (count_at A h a)) (all_positions A h top (join A h a x b))
      (all_positions A (suc h) top (r, a, (x, b) ∷ []))) q.left_id p in
      let p2 =
      subst (λ z. KeepsPositions (moved_by_split (id_of A h t) z r 0 (count_at A h a)) (all_positions A h top (join A h a x b))
      (all_positions A (suc h) top (r, a, (x, b) ∷ []))) q.right_id p1 in
      subst (λ z. KeepsPositions (moved_by_split (id_of A h t) j r 0 (count_at A h a)) (all_positions A h top z)
      (all_positions A (suc h) top (r, a, (x, b) ∷ []))) (sym q.joined) p2
