-- A tree has one list of positions, whatever the focus.
use Rattle.btree_laws.proofs.Common.{◌≡◌, ◌++◌, ◌∷◌, [], ◌∙◌, ℕ, zero, suc, List, map, Option, Some, None, refl, sym, ap, subst, append_assoc, append-nil, AllByRecursion, NodeMap, leaf, Holds, Subtree, id_of, view_at, branch_key, branch_positions, address_before, mark, over, address_at, positions_from, positions, positions_after, positions_before, path_after, path_before, all_positions, Path, Frame, HoldsAbove, fill, frame_index, parent_above, root_above, top, under}
use Rattle.btree_laws.proofs.Paths.Frames.{fill-holds, fill-id}
use Rattle.btree_laws.proofs.Places.Untouched.{positions-fill}

module _ (A : Type 0) where
  -- the same positions, by a focus at the parent
  pub positions-close : (h : ℕ) (f : Frame A h) (c : Path A (suc h)) (t : Subtree A h)
      → all_positions A h (under f c) t ≡ all_positions A (suc h) c (fill f t)
  positions-close h f c t =
      append_assoc (path_before A c) (positions_before A f) (positions A h t ++ (positions_after A f (frame_index f) ++ path_after A c))
      ∙ ap (λ z. path_before A c ++ z)
      (ap (λ z. positions_before A f ++ z) (sym (append_assoc (positions A h t) (positions_after A f (frame_index f)) (path_after A c)))
      ∙ sym (append_assoc (positions_before A f) (positions A h t ++ positions_after A f (frame_index f)) (path_after A c))
      ∙ ap (λ z. z ++ path_after A c) (sym (positions-fill A h f t)))

-- A store holds one tree, so its positions are the same for every focus.

module _ (A : Type 0) (node_at : NodeMap A) where
  same-positions_from : (h g i j o : ℕ) (p q : Option ℕ) → i ≡ j
      → (below : (t : Subtree A h) (u : Subtree A g) → id_of A h t ≡ id_of A g u → Holds A node_at h p t → Holds A node_at g q u
      → positions A h t ≡ positions A g u)
      (bs : List (A × Subtree A h)) (cs : List (A × Subtree A g)) → map {B = A × ℕ}
      (λ b. (b.0, id_of A h b.1)) bs ≡ map {B = A × ℕ} (λ b. (b.0, id_of A g b.1)) cs
      → AllByRecursion (λ b. Holds A node_at h p b.1) bs → AllByRecursion (λ b. Holds A node_at g q b.1) cs
      → positions_from (branch_key A h) (branch_positions A h) i o bs ≡ positions_from (branch_key A g) (branch_positions A g) j o cs
  same-positions_from h g i j o p q ij below [] [] e d f = ap (λ z. mark (address_at z o) None ∷ []) ij
  same-positions_from h g i j o p q ij below [] (c ∷ cs) e d f = absurd (cc)
  same-positions_from h g i j o p q ij below (b ∷ bs) [] e d f = absurd (cc)
  same-positions_from h g i j o p q ij below (b ∷ bs) (c ∷ cs) e d f =
      let e1 : ◌≡◌ {A = A × ℕ} (b.0, id_of A h b.1) (c.0, id_of A g c.1) = cc in
      let e2 : map {B = A × ℕ} (λ (b : A × Subtree A h). (b.0, id_of A h b.1)) bs ≡ map {B = A × ℕ}
      (λ (b : A × Subtree A g). (b.0, id_of A g b.1)) cs =
      cc in
      let x : b.0 ≡ c.0 = ap (λ (m : A × ℕ). m.0) e1 in
      let y = below b.1 c.1 (ap (λ (m : A × ℕ). m.1) e1) d.0 f.0 in
      let z = same-positions_from h g i j (suc o) p q ij below bs cs e2 d.1 f.1 in
      ap (λ k. mark (address_at k o) (Some b.0) ∷ over ∷ (positions A h b.1 ++ positions_from (branch_key A h) (branch_positions A h) i
      (suc o) bs)) ij
      ∙ ap (λ k. mark (address_at j o) (Some k) ∷ over ∷ (positions A h b.1 ++ positions_from (branch_key A h) (branch_positions A h) i
      (suc o) bs)) x
      ∙ ap (λ k. mark (address_at j o) (Some c.0) ∷ over ∷ (k ++ positions_from (branch_key A h) (branch_positions A h) i (suc o) bs)) y
      ∙ ap (λ k. mark (address_at j o) (Some c.0) ∷ over ∷ (positions A g c.1 ++ k)) z

  pub one-positions : (h g : ℕ) (p q : Option ℕ) (t : Subtree A h) (u : Subtree A g) → id_of A h t ≡ id_of A g u
      → Holds A node_at h p t → Holds A node_at g q u → positions A h t ≡ positions A g u
  one-positions zero zero p q t u e d f =
      let k : node_at t.0 ≡ Some (leaf q u.1) = rw e f in
      let x : t.1 ≡ u.1 = cc in
      ap (λ (z : ℕ). positions A 0 (z, t.1)) e ∙ ap (λ (z : List A). positions A 0 (u.0, z)) x
  one-positions zero (suc g) p q t u e d f = let k : node_at t.0 ≡ Some (view_at A (suc g) q u) = rw e f.0 in absurd (cc)
  one-positions (suc h) zero p q t u e d f = let k : node_at t.0 ≡ Some (leaf q u.1) = rw e f in let l = d.0 in absurd (cc)
  one-positions (suc h) (suc g) p q t u e d f =
      let k : node_at t.0 ≡ Some (view_at A (suc g) q u) = rw e f.0 in
      let l = d.0 in
      let i : id_of A h t.1 ≡ id_of A g u.1 = cc in
      let m : map {B = A × ℕ} (λ (b : A × Subtree A h). (b.0, id_of A h b.1)) t.2 ≡ map {B = A × ℕ}
      (λ (b : A × Subtree A g). (b.0, id_of A g b.1)) u.2 =
      cc in
      let x = one-positions h g (Some t.0) (Some u.0) t.1 u.1 i d.1 f.1 in
      let y = same-positions_from h g t.0 u.0 0 (Some t.0) (Some u.0) e (one-positions h g (Some t.0) (Some u.0)) t.2 u.2 m d.2 f.2 in
      ap (λ (z : ℕ). mark (address_before z) None ∷ (positions A h t.1 ++ positions_from (branch_key A h) (branch_positions A h) t.0 0 t.2)) e
      ∙ ap (λ z. mark (address_before u.0) None ∷ (z ++ positions_from (branch_key A h) (branch_positions A h) t.0 0 t.2)) x
      ∙ ap (λ z. mark (address_before u.0) None ∷ (positions A g u.1 ++ z)) y

  pub record Plugged (h : ℕ) (c : Path A h) (t : Subtree A h) : Type 0 where
    pub height : ℕ
    pub subtree : Subtree A height
    pub holds : Holds A node_at height None subtree
    pub at_root : id_of A height subtree ≡ root_above c (id_of A h t)
    pub same : all_positions A h c t ≡ positions A height subtree

  pub plugged : (h : ℕ) (c : Path A h) (t : Subtree A h) → HoldsAbove node_at c (id_of A h t)
      → Holds A node_at h (parent_above c) t → Plugged h c t
  plugged h top t a d = record { height = h; subtree = t; holds = d; at_root = refl; same = append-nil (positions A h t) }
  plugged h (under f c) t a d =
      let r =
      plugged (suc h) c (fill f t) (subst (λ i. HoldsAbove node_at c i) (sym (fill-id A h f t)) a.2)
      (fill-holds A node_at h (parent_above c) f t a.0 a.1 d) in
      record {
        height = r.height;
        subtree = r.subtree;
        holds = r.holds;
        at_root = r.at_root ∙ ap (root_above c)
            (fill-id A h f t);
        same = positions-close A h f c t ∙ r.same;
      }
