-- A well formed tree, from which nothing was taken yet, is what is left of itself.
use Rattle.btree_owned_walk.proofs.Common.{◌≡◌, ◌<◌, ◌≤◌, inl, ℕ, zero, suc, ◌+◌, List, [], ◌∷◌, length, map, Option, Some, None, refl, sym, ap, ◌∙◌, arith, AllByRecursion, leaf, NodeMap, Subtree, id_of, items_under, later_items, view_at, HasAny, HoldsRest, AtLast, IsRest, met}
use Rattle.btree_laws.specs.Focus.Focus.{IsTree}
use Rattle.btree_laws.specs.Focus.Subtree.{Holds, IsFilled, IsFilledBelow, count_at}
use Rattle.btree_laws.specs.Represents.{represented, represented_in}
use Rattle.btree_laws.proofs.Trees.Numbers.{used-low, used-none}
use Rattle.btree_laws.proofs.Trees.Represented.{represented-is}
use Rattle.btree_laws.proofs.Trees.Subtrees.{represents-of}
use Rattle.btree_owned_walk.specs.NodesLeft.{meets, met_later, nodes_in, nodes_later, nodes_under}
use Rattle.btree_owned_walk.proofs.RestLemmas.{any-is, any-right}

module _ (A : Type 0) where
  -- the root of what has an item leads to the last one
  pub root-at-last : (h : ℕ) (t : Subtree A h) → HasAny (items_under A h t) → AtLast A (id_of A h t) h t
  root-at-last zero t a = (refl, a)
  root-at-last (suc h) t a = (a, inl refl)

  later-any : (h : ℕ) (bs : List (A × Subtree A h)) → 1 ≤ length bs → HasAny (later_items A h bs)
  later-any h [] l = absurd (omega arith)
  later-any h (b ∷ bs) l = omega arith

  pub filled-any : (h : ℕ) (t : Subtree A h) → 1 ≤ count_at A h t → HasAny (items_under A h t)
  filled-any zero t l = omega arith
  filled-any (suc h) t l = any-right (items_under A h t.1) (later_items A h t.2) (later-any h t.2 l)

  branches-rest : (node_at : NodeMap A) (h : ℕ) (p : Option ℕ)
      → ((t : Subtree A h) → Holds A node_at h p t → 1 ≤ count_at A h t → IsFilledBelow A h t → HoldsRest A node_at h p t)
      → (bs : List (A × Subtree A h)) → AllByRecursion (λ b. Holds A node_at h p b.1) bs
      → AllByRecursion (λ b. IsFilled 3 h (count_at A h b.1) × IsFilledBelow A h b.1) bs
      → AllByRecursion (λ b. HoldsRest A node_at h p b.1) bs
  branches-rest node_at h p each [] d f = tt
  branches-rest node_at h p each (b ∷ bs) d f =
      let low = f.0.0.0 in (each b.1 d.0 (omega arith) f.0.1, branches-rest node_at h p each bs d.1 f.1)

  pub holds-rest : (node_at : NodeMap A) (h : ℕ) (p : Option ℕ) (t : Subtree A h) → Holds A node_at h p t → 1 ≤ count_at A h t
      → IsFilledBelow A h t → HoldsRest A node_at h p t
  holds-rest node_at zero p t d l f = d ∙ sym (any-is t.1 (leaf p t.1) l)
  holds-rest node_at (suc h) p t d l f =
      let low = f.0.0 in (
        d.0 ∙ sym (any-is (items_under A (suc h) t) (view_at A (suc h) p t) (filled-any (suc h) t l)),
        holds-rest node_at h (Some t.0) t.1 d.1 (omega arith) f.1,
        branches-rest node_at h (Some t.0) (holds-rest node_at h (Some t.0)) t.2 d.2 f.2,
      )

  pub tree-rest : (node_at : NodeMap A) (root : ℕ) (xs : List A) (s : IsTree A node_at root xs) → IsRest A node_at s.height s.subtree
  tree-rest node_at root xs s = record {
    holds = holds-rest node_at s.height None s.subtree s.holds s.sized.0 s.below;
    apart = λ n. (let e = s.once n in let l = used-low (node_at n) in omega arith);
    only = λ n z. used-none (node_at n) (sym (s.once n) ∙ z);
  }

  module _ (node_at : NodeMap A) where
    -- a subtree represents its items
    pub list-of : (h : ℕ) (p : Option ℕ) (t : Subtree A h) → Holds A node_at h p t → (levels : ℕ) → h < levels
        → represented node_at levels (id_of A h t) ≡ items_under A h t
    list-of h p t d levels l = represented-is node_at h levels p (id_of A h t) (items_under A h t) l (represents-of A node_at h p t d)

  -- the two counts of the nodes with an item left are one: by the nodes of the store, and by the tree
  module _ (from to : ℕ) (node_at : NodeMap A) where
    later-nodes : (h : ℕ) (p : Option ℕ) (levels : ℕ) → h < levels
        → ((s : ℕ) (t : Subtree A h) → Holds A node_at h p t → nodes_under A from to node_at levels s (id_of A h t) ≡ met A from to h s t)
        → (s : ℕ) (bs : List (A × Subtree A h)) → AllByRecursion (λ b. Holds A node_at h p b.1) bs
        → nodes_later A from to node_at levels (nodes_under A from to node_at levels) s (map {B = A × ℕ} (λ (b : A × Subtree A h). (b.0, id_of A h b.1)) bs)
        ≡ met_later A from to h (met A from to h) s bs
    later-nodes h p levels l each s [] d = refl
    later-nodes h p levels l each s (b ∷ bs) d =
        let here = each (s + 1) b.1 d.0 in
        let next = later-nodes h p levels l each (s + 1 + length (items_under A h b.1)) bs d.1 in
        let place = ap (λ xs. nodes_later A from to node_at levels (nodes_under A from to node_at levels) (s + 1 + length xs)
        (map {B = A × ℕ} (λ (b : A × Subtree A h). (b.0, id_of A h b.1)) bs)) (list-of node_at h p b.1 d.0 levels l) in
        omega arith

    pub nodes-met : (h : ℕ) (p : Option ℕ) (levels : ℕ) → h < levels → (s : ℕ) (t : Subtree A h) → Holds A node_at h p t
        → nodes_under A from to node_at levels s (id_of A h t) ≡ met A from to h s t
    nodes-met h p zero l s t d = absurd (omega arith)
    nodes-met zero p (suc levels) l s t d = ap (nodes_in A from to node_at levels (nodes_under A from to node_at levels) s) d
    nodes-met (suc h) p (suc levels) l s t d =
        let own = ap length (list-of node_at (suc h) p t d (suc levels) l) in
        let view = ap (nodes_in A from to node_at levels (nodes_under A from to node_at levels) s) d.0 in
        let own2 = ap (λ v. length (represented_in (represented node_at levels) v)) d.0 in
        let same : s + length (represented_in (represented node_at levels) (Some (view_at A (suc h) p t))) ≡ s + length (items_under A (suc h) t) = omega arith in
        let meet = ap (meets from to s) same in
        let first = nodes-met h (Some t.0) levels (omega arith) s t.1 d.1 in
        let place = ap (λ xs. nodes_later A from to node_at levels (nodes_under A from to node_at levels) (s + length xs)
        (map {B = A × ℕ} (λ (b : A × Subtree A h). (b.0, id_of A h b.1)) t.2)) (list-of node_at h (Some t.0) t.1 d.1 levels (omega arith)) in
        let rest = later-nodes h (Some t.0) levels (omega arith) (nodes-met h (Some t.0) levels (omega arith)) (s + length (items_under A h t.1)) t.2 d.2 in
        view ∙ omega arith
