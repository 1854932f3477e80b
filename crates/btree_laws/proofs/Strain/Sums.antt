-- The strain of a tree in parts is the sum over the nodes under its root.
use Rattle.btree_laws.proofs.Common.{◌≡◌, ◌≢◌, ◌≤◌, ◌∷◌, [], ◌∙◌, ◌+◌, ◌-◌, ◌==◌, if◌then◌else◌, ℕ, zero, suc, List, length, map, Option, Some, None, refl, sym, ap, subst, arith, length-map, AllByRecursion, flat_map, NodeMap, View, children_in, levels_below, one, total, Holds, Subtree, count_at, id_of, times_under, view_at, numbers_under, strain, strain_of, surplus, strain_under, Path, fill, top, under, IsRooted, IsSized, IsUnsizedFocus, IsFocus}
use Rattle.btree_laws.specs.Strain.{strain_in, surplus_of}
use Rattle.btree_laws.proofs.Paths.Frames.{one-self, top-view, total-append}
use Rattle.btree_laws.proofs.Trees.Heights.{levels-is}
use Rattle.btree_laws.proofs.Paths.Used.{full-no, full-yes}
use Rattle.btree_laws.proofs.Trees.Numbers.{used-low}
use Rattle.btree_laws.proofs.Trees.Sizes.{view-size}
use Rattle.btree_laws.proofs.Trees.Subtrees.{subtree-of}
use Rattle.btree_laws.proofs.Paths.UnsizedFocus.{unsized-up, focus-unsized}
use Rattle.btree_laws.proofs.Strain.Splits.{strain-close}

module _ (A : Type 0) where
  -- the same by a focus at each of its nodes
  pub record RootStrain (node_at : NodeMap A) (spare : List ℕ) (root : ℕ) (xs : List A) (amount : ℕ) : Type 0 where
    pub height : ℕ
    pub subtree : Subtree A height
    pub focused : IsUnsizedFocus A node_at spare root xs height top subtree
    pub is : amount ≡ strain_of A height top subtree

  pub root-strain : (node_at : NodeMap A) (spare : List ℕ) (root : ℕ) (xs : List A) (h : ℕ) (c : Path A h) (t : Subtree A h)
      → IsUnsizedFocus A node_at spare root xs h c t
      → RootStrain node_at spare root xs (strain_of A h c t)
  root-strain node_at spare root xs h top t s = record { height = h; subtree = t; focused = s; is = refl }
  root-strain node_at spare root xs h (under f c) t s =
      let r = root-strain node_at spare root xs (suc h) c (fill f t) (unsized-up A node_at spare root xs h f c t s) in
      record { height = r.height; subtree = r.subtree; focused = r.focused; is = strain-close A h f c t ∙ r.is }

  module _ (node_at : NodeMap A) (root : ℕ) where
    node-surplus : (h : ℕ) (p : Option ℕ) (t : Subtree A h) → surplus_of (view_at A h p t) ≡ surplus h (count_at A h t)
    node-surplus zero p t = refl
    node-surplus (suc h) p t =
        let e : length (map {B = A × ℕ} (λ (b : A × Subtree A h). (b.0, id_of A h b.1)) t.2) ≡ length t.2 =
        length-map t.2 (λ (b : A × Subtree A h). (b.0, id_of A h b.1)) in
        ap (λ n. n - 5) e

    node-strain : (h : ℕ) (p : Option ℕ) (t : Subtree A h) → Holds A node_at h p t
        → strain_in root (id_of A h t) (node_at (id_of A h t)) ≡ surplus h
        (count_at A h t) + (if id_of A h t == root then 0 else 4 - count_at A h t)
    node-strain h p t d =
        let e = top-view A node_at h p t d in
        let s = node-surplus h p t in
        let n = view-size A h p t in
        rw (e, s, n) refl

    no-root : (n : ℕ) (x : ℕ) → n ≢ root → (if n == root then 0 else x) ≡ x
    no-root n x e = full-no n root 0 x e

    branch-strains : (h : ℕ) (p : Option ℕ)
        → ((t : Subtree A h) → Holds A node_at h p t → times_under A h root t ≡ 0 → strain_under node_at root
        (numbers_under node_at h (id_of A h t)) ≡ strain A h t)
        → (bs : List (A × Subtree A h)) → AllByRecursion (λ b. Holds A node_at h p b.1) bs
        → total (λ (b : A × Subtree A h). times_under A h root b.1) bs ≡ 0
        → strain_under node_at root
        (flat_map (numbers_under node_at h)
        (map {B = ℕ} (λ b. b.1) (map {B = A × ℕ} (λ (b : A × Subtree A h). (b.0, id_of A h b.1)) bs))) ≡ total
        (λ (b : A × Subtree A h). strain A h b.1) bs
    branch-strains h p each [] d o = refl
    branch-strains h p each (b ∷ bs) d o =
        let q =
        total-append (λ id. strain_in root id (node_at id)) (numbers_under node_at h (id_of A h b.1))
        (flat_map (numbers_under node_at h)
        (map {B = ℕ} (λ b. b.1) (map {B = A × ℕ} (λ (b : A × Subtree A h). (b.0, id_of A h b.1)) bs))) in
        let x = each b.1 d.0 (omega arith) in
        let r = branch-strains h p each bs d.1 (omega arith) in
        omega arith

    under-first : (h : ℕ) (p : Option ℕ) (t : Subtree A (suc h)) → Holds A node_at (suc h) p t
        → strain_under node_at root (numbers_under node_at (suc h) t.0)
        ≡ strain_in root t.0 (node_at t.0) + (strain_under node_at root (numbers_under node_at h (id_of A h t.1))
        + strain_under node_at root
        (flat_map (numbers_under node_at h)
        (map {B = ℕ} (λ b. b.1) (map {B = A × ℕ} (λ (b : A × Subtree A h). (b.0, id_of A h b.1)) t.2))))
    under-first h p t d =
        let ns : List ℕ = map {B = ℕ} (λ b. b.1) (map {B = A × ℕ} (λ (b : A × Subtree A h). (b.0, id_of A h b.1)) t.2) in
        let e : children_in (node_at t.0) ≡ id_of A h t.1 ∷ ns = ap children_in d.0 in
        let f : strain_under node_at root (flat_map (numbers_under node_at h) (children_in (node_at t.0))) ≡ strain_under node_at
        root (flat_map (numbers_under node_at h) (id_of A h t.1 ∷ ns)) =
        ap (λ l. strain_under node_at root (flat_map (numbers_under node_at h) l)) e in
        let q =
        total-append (λ id. strain_in root id (node_at id)) (numbers_under node_at h (id_of A h t.1))
        (flat_map (numbers_under node_at h) ns) in
        omega arith

    tree-strain : (h : ℕ) (p : Option ℕ) (t : Subtree A h) → Holds A node_at h p t → times_under A h root t ≡ 0
        → strain_under node_at root (numbers_under node_at h (id_of A h t)) ≡ strain A h t
    tree-strain zero p t d o =
        let a = node-strain zero p t d in
        let b =
        no-root t.0 (4 - length t.1) (λ e. let s : one root t.0 ≡ 1 = subst (λ z. one root z ≡ 1) (sym e)
        (one-self root) in omega arith) in
        omega arith
    tree-strain (suc h) p t d o =
        let a = node-strain (suc h) p t d in
        let b =
        no-root t.0 (4 - length t.2) (λ e. let s : one root t.0 ≡ 1 = subst (λ z. one root z ≡ 1) (sym e)
        (one-self root) in omega arith) in
        let u = under-first h p t d in
        let f = tree-strain h (Some t.0) t.1 d.1 (omega arith) in
        let r = branch-strains h (Some t.0) (tree-strain h (Some t.0)) t.2 d.2 (omega arith) in
        omega arith

    pub strain-of-root : (h : ℕ) (t : Subtree A h) → id_of A h t ≡ root → Holds A node_at h None t
        → ((n : ℕ) → times_under A h n t ≤ 1)
        → strain_under node_at root (numbers_under node_at h root) ≡ strain_of A h top t
    strain-of-root zero t here d o =
        let a = node-strain zero None t d in
        let b = full-yes t.0 root 0 (4 - length t.1) here in
        let e : strain_under node_at root (numbers_under node_at zero t.0) ≡ strain_under node_at root
        (numbers_under node_at zero root) =
        ap (λ i. strain_under node_at root (numbers_under node_at zero i)) here in
        omega arith
    strain-of-root (suc h) t here d o =
        let a = node-strain (suc h) None t d in
        let b = full-yes t.0 root 0 (4 - length t.2) here in
        let e : strain_under node_at root (numbers_under node_at (suc h) t.0) ≡ strain_under node_at root
        (numbers_under node_at (suc h) root) =
        ap (λ i. strain_under node_at root (numbers_under node_at (suc h) i)) here in
        let u = under-first h None t d in
        let s = one-self root in
        let k : one root t.0 ≡ 1 = subst (λ z. one root z ≡ 1) (sym here) s in
        let q = o root in
        let f = tree-strain h (Some t.0) t.1 d.1 (omega arith) in
        let r = branch-strains h (Some t.0) (tree-strain h (Some t.0)) t.2 d.2 (omega arith) in
        omega arith

  -- the strain of a tree, by its nodes
  pub strain-unsized : (is_right : (id : ℕ) → View A → Type 0) (node_at : NodeMap A) (root : ℕ) (xs : List A)
      (r : IsRooted is_right node_at root xs) (h : ℕ) (c : Path A h) (t : Subtree A h)
      → IsUnsizedFocus A node_at [] root xs h c t
      → strain_of A h c t ≡ strain_under node_at root (numbers_under node_at r.height root)
  strain-unsized is_right node_at root xs r h c t w =
      let s = subtree-of A node_at r.height None root xs r.represents in
      let a = root-strain node_at [] root xs h c t w in
      let b =
      strain-of-root node_at root a.height a.subtree a.focused.root_is a.focused.inner
      (λ n. let o = a.focused.once n in let k = used-low (node_at n) in omega arith) in
      let l1 = levels-is A node_at a.height (a.height + r.height) None a.subtree (omega arith) a.focused.inner in
      let l2 = levels-is A node_at r.height (a.height + r.height) None s.subtree (omega arith) s.holds in
      let e : id_of A a.height a.subtree ≡ id_of A r.height s.subtree = a.focused.root_is ∙ sym s.here in
      let same : a.height ≡ r.height = sym l1 ∙ (ap (levels_below node_at (a.height + r.height)) e ∙ l2) in
      a.is ∙ (sym b ∙ ap (λ k. strain_under node_at root (numbers_under node_at k root)) same)

  pub strain-rooted : (node_at : NodeMap A) (root : ℕ) (xs : List A) (r : IsRooted (IsSized root) node_at root xs) (h : ℕ)
      (c : Path A h) (t : Subtree A h)
      → IsFocus A node_at [] root xs h c t
      → strain_of A h c t ≡ strain_under node_at root (numbers_under node_at r.height root)
  strain-rooted node_at root xs r h c t w =
      strain-unsized (IsSized root) node_at root xs r h c t (focus-unsized A node_at [] root xs h c t w)
