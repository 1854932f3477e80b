-- A rotation, a merge and shrinking the root keep the place of each address of the tree.
use Rattle.btree_laws.proofs.Common.{◌≡◌, ◌≢◌, ◌≤◌, ◌++◌, ◌∷◌, [], ◌∙◌, ◌+◌, ◌-◌, ℕ, zero, suc, inl, inr, List, length, Option, Some, None, refl, sym, ap, subst, arith, append_assoc, append-nil, Address, at_separator, moved_by_merge, moved_by_shrink_root, moved_by_rotate_left, moved_by_rotate_right, Rotates, first_of, one, Subtree, count_at, id_of, times_under, KeepsPositions, IsAt, Position, branch_key, branch_positions, address_before, mark, passed, address_at, positions_from, positions, positions_after, positions_before, path_after, path_before, all_positions, Path, Frame, fill, fill_two, frame_id, frame_index, top}
use Rattle.btree_laws.specs.Moved.{root_after_shrinking}
use Rattle.btree_laws.proofs.Splits.KeptPositions.{Alone, elsewhere, near, pair-passed}
use Rattle.btree_laws.proofs.Paths.Frames.{one-zero}
use Rattle.btree_laws.proofs.Splits.NodeAddresses.{ids-apart, positions-first}
use Rattle.btree_laws.proofs.Places.Untouched.{by-less, by-more, if-other, if-same, pair_positions, step-keeps, positions-fill, positions-fill_two, positions-same}
use Rattle.btree_laws.proofs.Underflow.SiblingAddresses.{left-local, left-others, left-parent, merge-local, merge-others, merge-parent, right-local, right-others, right-parent}
use Rattle.btree_laws.proofs.Splits.CutPositions.{in-none}
use Rattle.btree_laws.proofs.Splits.TwoParts.{join}
use Rattle.btree_laws.proofs.Places.Lists.{keep-to, in-cases, in-right, passed-append}

module _ (A : Type 0) where
  pub rotate-join : (h : ℕ) (a : Subtree A h) (x : A) (b a' : Subtree A h) (y : A) (b' : Subtree A h) → Rotates A h a x b a' y b'
      → join A h a x b ≡ join A h a' y b'
  rotate-join zero a x b a' y b' t = rw (t.0, t.1) (ap (λ z. (a.0, z)) (sym (append_assoc a.1 (x ∷ []) (y ∷ b'.1))))
  rotate-join (suc h) a x b a' y b' t =
      let e : join A (suc h) a x b ≡ (a.0, a.1, a.2 ++ (x, b.1) ∷ (y, b'.1) ∷ b'.2) =
      ap (λ (z : Subtree A (suc h)). (a.0, a.1, a.2 ++ (x, b.1) ∷ z.2)) t.1 in
      let e2 : join A (suc h) a' y b' ≡ (a.0, a.1, (a.2 ++ (x, b.1) ∷ []) ++ (y, b'.1) ∷ b'.2) =
      ap (λ (z : Subtree A (suc h)). join A (suc h) z y b') t.0 in
      e ∙ (ap (λ z. (a.0, a.1, z)) (sym (append_assoc a.2 ((x, b.1) ∷ []) ((y, b'.1) ∷ b'.2))) ∙ sym e2)

  module _ (h : ℕ) (f : Frame A h) (c : Path A (suc h)) (a : Subtree A h) (x : A) (b : Subtree A h)
      (o : Alone A h f c a b) where
    abbrev P : ℕ
    P = frame_id f

    abbrev S : ℕ
    S = frame_index f

    pub merge-places : KeepsPositions (moved_by_merge (id_of A h a) (id_of A h b) P S (count_at A h a) (first_of A h b))
        (all_positions A (suc h) c (fill_two f a x b)) (all_positions A (suc h) c (fill f (join A h a x b)))
    merge-places =
        let i : ℕ = id_of A h a in
        let j : ℕ = id_of A h b in let n : ℕ = count_at A h a in let k : Option ℕ = first_of A h b in
        let d = ids-apart A h P a b (near A h f c a x b o) in
        let g : Address → Address = moved_by_merge i j P S n k in
        subst (λ z. KeepsPositions g (path_before A c ++ (z ++ path_after A c))
        (all_positions A (suc h) c (fill f (join A h a x b)))) (sym (positions-fill_two A h f a x b))
        (subst (λ z. KeepsPositions g
        (path_before A c ++ ((positions_before A f ++ (pair_positions A h f a x b ++ positions_after A f (suc S))) ++ path_after A
        c)) (path_before A c ++ (z ++ path_after A c))) (sym (positions-fill A h f (join A h a x b)))
        (step-keeps A g h f c (pair_positions A h f a x b) (positions A h (join A h a x b)) (suc S) S
        (merge-local A h P S a x b (near A h f c a x b o)) (pair-passed A h f a x b)
        (elsewhere A h f c a x b o g (λ v ni nj np. merge-others i j P S n k d.0 d.1 d.2 v nj np))
        (merge-parent i j P S n k d.0 d.1 d.2 None)
        (λ m l. merge-parent i j P S n k d.0 d.1 d.2 (Some m) ∙ by-less (address_at P m) (address_at i n) (address_at P (m - 1)) m S l)
        (λ m. merge-parent i j P S n k d.0 d.1 d.2 (Some (suc S + m))
        ∙ (by-more (address_at P (suc S + m)) (address_at i n) (address_at P (suc S + m - 1)) (suc S + m) S (omega arith)
        ∙ ap (λ z. address_at P z) (let q : suc S + m - 1 ≡ S + m = omega arith in q)))))

    turned : (g : Address → Address) (a' : Subtree A h) (y : A) (b' : Subtree A h)
        → KeepsPositions g (pair_positions A h f a x b) (pair_positions A h f a' y b') → join A h a x b ≡ join A h a' y b'
        → ((v : Address) → v.id ≢ id_of A h a → v.id ≢ id_of A h b → v.id ≢ P → g v ≡ v) → (to : Address)
        → ((m : Option ℕ) → g (record { id = P; offset = m }) ≡ at_separator P S to m)
        → KeepsPositions g (all_positions A (suc h) c (fill_two f a x b)) (all_positions A (suc h) c (fill_two f a' y b'))
    turned g a' y b' mid same others to parent =
        subst (λ z. KeepsPositions g (path_before A c ++ (z ++ path_after A c)) (all_positions A (suc h) c (fill_two f a' y b')))
        (sym (positions-fill_two A h f a x b))
        (subst (λ z. KeepsPositions g
        (path_before A c ++ ((positions_before A f ++ (pair_positions A h f a x b ++ positions_after A f (suc S))) ++ path_after A
        c)) (path_before A c ++ (z ++ path_after A c))) (sym (positions-fill_two A h f a' y b'))
        (step-keeps A g h f c (pair_positions A h f a x b) (pair_positions A h f a' y b') (suc S) (suc S) mid
        (pair-passed A h f a x b ∙ (ap (λ z. passed (positions A h z)) same ∙ sym (pair-passed A h f a' y b')))
        (elsewhere A h f c a x b o g others) (parent None)
        (λ m l. parent (Some m) ∙ if-other m S to (address_at P m) (λ e. omega arith))
        (λ m. parent (Some (suc S + m)) ∙ if-other (suc S + m) S to (address_at P (suc S + m)) (λ e. omega arith))))

    pub left-places : (a' : Subtree A h) (y : A) (b' : Subtree A h) → Rotates A h a x b a' y b'
        → KeepsPositions (moved_by_rotate_left (id_of A h a) (id_of A h b) P S (count_at A h a) (first_of A h b))
        (all_positions A (suc h) c (fill_two f a x b)) (all_positions A (suc h) c (fill_two f a' y b'))
    left-places a' y b' t =
        let i : ℕ = id_of A h a in
        let j : ℕ = id_of A h b in let n : ℕ = count_at A h a in let k : Option ℕ = first_of A h b in
        let d = ids-apart A h P a b (near A h f c a x b o) in
        turned (moved_by_rotate_left i j P S n k) a' y b' (left-local A h P S a x b a' y b' (near A h f c a x b o) t)
        (rotate-join h a x b a' y b' t)
        (λ v ni nj np. left-others i j P S n k d.0 d.1 d.2 v nj np) (address_at i n)
        (λ m. left-parent i j P S n k d.0 d.1 d.2 m)

    pub right-places : (a' : Subtree A h) (y : A) (b' : Subtree A h) → Rotates A h a' y b' a x b
        → KeepsPositions (moved_by_rotate_right (id_of A h a) (id_of A h b) P S (count_at A h a) (first_of A h b))
        (all_positions A (suc h) c (fill_two f a x b)) (all_positions A (suc h) c (fill_two f a' y b'))
    right-places a' y b' t =
        let i : ℕ = id_of A h a in
        let j : ℕ = id_of A h b in let n : ℕ = count_at A h a in let k : Option ℕ = first_of A h b in
        let d = ids-apart A h P a b (near A h f c a x b o) in
        turned (moved_by_rotate_right i j P S n k) a' y b' (right-local A h P S a x b a' y b' (near A h f c a x b o) t)
        (sym (rotate-join h a' y b' a x b t))
        (λ v ni nj np. right-others i j P S n k d.0 d.1 d.2 v ni nj np) (address_at j 0)
        (λ m. right-parent i j P S n k d.0 d.1 d.2 m)

  -- the place past the end
  node_positions-last : {X : Type 0} (item : X → A) (f : X → List (Position A)) (i o : ℕ) (xs : List X)
      → IsAt None (address_at i (o + length xs)) (positions_from item f i o xs) (passed (positions_from item f i o xs))
  node_positions-last item f i o [] = inl (ap (λ z. address_at i z) (let q : o + 0 ≡ o = omega arith in q), refl, tt)
  node_positions-last item f i o (x ∷ xs) =
      let e : o + suc (length xs) ≡ suc o + length xs = omega arith in
      inr (
        passed (f x ++ positions_from item f i (suc o) xs),
        refl,
        in-right None (address_at i (o + suc (length xs))) (f x) (positions_from item f i (suc o) xs)
            (passed (f x ++ positions_from item f i (suc o) xs)) (passed (positions_from item f i (suc o) xs))
            (passed-append (f x) (positions_from item f i (suc o) xs))
            (subst (λ z. IsAt None (address_at i z) (positions_from item f i (suc o) xs) (passed (positions_from item f i (suc o) xs))) (sym e)
            (node_positions-last item f i (suc o) xs)),
      )

  pub positions-last : (h : ℕ) (t : Subtree A h)
      → IsAt None (address_at (id_of A h t) (count_at A h t)) (positions A h t) (passed (positions A h t))
  positions-last zero t =
      inr (subst (λ z. IsAt None (address_at t.0 z) (positions_from {A = A} {X = A} (λ x. x) (λ x. []) t.0 0 t.1)
      (passed (positions_from {A = A} {X = A} (λ x. x) (λ x. []) t.0 0 t.1)))
      (let q : 0 + length t.1 ≡ length t.1 = omega arith in q)
      (node_positions-last {X = A} (λ x. x) (λ x. []) t.0 0 t.1))
  positions-last (suc h) t =
      let ts : List (Position A) = positions_from (branch_key A h) (branch_positions A h) t.0 0 t.2 in
      inr (in-right None (address_at t.0 (length t.2)) (positions A h t.1) ts (passed (positions A h t.1 ++ ts)) (passed ts)
      (passed-append (positions A h t.1) ts)
      (subst (λ z. IsAt None (address_at t.0 z) ts (passed ts)) (let q : 0 + length t.2 ≡ length t.2 = omega arith in q)
      (node_positions-last (branch_key A h) (branch_positions A h) t.0 0 t.2)))

  -- a root without items
  pub release-places : (h n : ℕ) (u : Subtree A h) → ((m : ℕ) → one m n + times_under A h m u ≤ 1)
      → KeepsPositions (moved_by_shrink_root n (id_of A h u) (count_at A h u)) (all_positions A (suc h) top (n, u, []))
      (all_positions A h top u)
  release-places h n u apart =
      let g : Address → Address = moved_by_shrink_root n (id_of A h u) (count_at A h u) in
      let T : List (Position A) = positions A h u in
      let same : KeepsPositions g T T =
      positions-same A g h u (λ v m. if-other v.id n (root_after_shrinking (id_of A h u) (count_at A h u) v.offset) v
      (one-zero v.id n (let q = apart v.id in omega arith))) in
      let at_low : g (address_before n) ≡ address_before (id_of A h u) = if-same n n (address_before (id_of A h u)) (address_before n) refl in
      let at_end : g (address_at n 0) ≡ address_at (id_of A h u) (count_at A h u) =
      if-same n n (address_at (id_of A h u) (count_at A h u)) (address_at n 0) refl in
      subst (λ z. KeepsPositions g ((mark (address_before n) None ∷ (T ++ (mark (address_at n 0) None ∷ []))) ++ []) z) (sym (append-nil T))
      (subst (λ z. KeepsPositions g z T) (sym (append-nil (mark (address_before n) None ∷ (T ++ (mark (address_at n 0) None ∷ [])))))
      (keep-to g (address_before n) None (T ++ (mark (address_at n 0) None ∷ [])) T
      (λ o h2. in-none (λ (x : A). x) (λ x. []) o (g (address_before n)) T 0 h2
      (subst (λ z. IsAt None z T 0) (sym at_low) (positions-first A h u)))
      (λ o a w i. elim (in-cases o a T (mark (address_at n 0) None ∷ []) w i) [
        | inl q ↦ same o a w q
        | inr q ↦ elim q.there [
          | inl e ↦
              let w' : w ≡ passed T = (let e1 = q.is in let e2 = e.1 in omega arith) in
              subst (λ z. IsAt o z T w) (sym (ap g e.0 ∙ at_end))
              (subst (λ z. IsAt o (address_at (id_of A h u) (count_at A h u)) T z) (sym w')
              (in-none (λ (x : A). x) (λ x. []) o (address_at (id_of A h u) (count_at A h u)) T (passed T) e.2
              (positions-last h u)))
          | inr e ↦ absurd e
        ]
      ])))

  -- a root leaf without items: its addresses have place 0, as nowhere has in the empty tree
  pub emptied-place : (r : ℕ) (expected : Option A) (a : Address) (place : ℕ) → IsAt expected a (positions A 0 (r, [])) place
      → place ≡ 0
  emptied-place r expected a place (inl i) = i.1
  emptied-place r expected a place (inr (inl i)) = i.1
  emptied-place r expected a place (inr (inr i)) = absurd i
