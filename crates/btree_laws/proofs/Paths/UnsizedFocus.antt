-- A focus whatever the numbers of items are: up to the root and down to any node.
use Rattle.btree_laws.proofs.Common.{◌≡◌, ◌<◌, ◌++◌, ◌∙◌, ℕ, zero, suc, inl, inr, List, sym, ap, subst, arith, NodeMap, IsFilledBelow, Subtree, id_of, items_under, times_under, Path, AreFilled, Frame, HoldsAbove, after_in, at_branch, at_first, before_in, fill, items_after, items_before, parent_above, root_above, top, under, IsFocus, IsUnsizedFocus}
use Rattle.btree_laws.proofs.Paths.Frames.{fill-holds, fill-id, fill-items, fill-times, one-other, open-holds}
use Rattle.btree_laws.proofs.Trees.Numbers.{pick, same-or, zero-or}
use Rattle.btree_laws.proofs.Paths.Focus.{regroup}

module _ (A : Type 0) where
  -- a focus is one of a tree whose sizes are not asked for
  pub focus-unsized : (node_at : NodeMap A) (spare : List ℕ) (root : ℕ) (xs : List A) (h : ℕ) (c : Path A h) (t : Subtree A h)
      → IsFocus A node_at spare root xs h c t → IsUnsizedFocus A node_at spare root xs h c t
  focus-unsized node_at spare root xs h c t w = record {
    above = w.above;
    inner = w.inner;
    once = w.once;
    list = w.list;
    root_is = w.root_is;
  }

  pub unsized-focus : (node_at : NodeMap A) (spare : List ℕ) (root : ℕ) (xs : List A) (h : ℕ) (c : Path A h) (t : Subtree A h)
      → IsUnsizedFocus A node_at spare root xs h c t → AreFilled c → IsFilledBelow A h t
      → IsFocus A node_at spare root xs h c t
  unsized-focus node_at spare root xs h c t s f b = record {
    above = s.above;
    inner = s.inner;
    once = s.once;
    filled = f;
    below = b;
    list = s.list;
    root_is = s.root_is;
  }

  module _ (node_at : NodeMap A) (spare : List ℕ) (root : ℕ) (xs : List A) where
    pub unsized-up : (h : ℕ) (f : Frame A h) (c : Path A (suc h)) (t : Subtree A h)
        → IsUnsizedFocus A node_at spare root xs h (under f c) t → IsUnsizedFocus A node_at spare root xs (suc h) c (fill f t)
    unsized-up h f c t w =
        record {
          above = subst (λ i. HoldsAbove node_at c i) (sym (fill-id A h f t)) w.above.2;
          inner = fill-holds A node_at h (parent_above c) f t w.above.0 w.above.1 w.inner;
          once = λ n. omega (arith, w.once n, fill-times A h n f t);
          list = w.list ∙ sym (ap (λ ys. items_before c ++ (ys ++ items_after c)) (fill-items A h f t) ∙ regroup A
              (items_before c) (before_in f) (items_under A h t) (after_in f) (items_after c));
          root_is = ap (root_above c) (fill-id A h f t) ∙ w.root_is;
        }

    pub unsized-down : (h : ℕ) (f : Frame A h) (c : Path A (suc h)) (t : Subtree A h)
        → IsUnsizedFocus A node_at spare root xs (suc h) c (fill f t) → IsUnsizedFocus A node_at spare root xs h (under f c) t
    unsized-down h f c t w =
        let o = open-holds A node_at h (parent_above c) f t w.inner in
        record {
          above = (o.node, o.siblings, subst (λ i. HoldsAbove node_at c i) (fill-id A h f t) w.above);
          inner = o.inner;
          once = λ n. omega (arith, w.once n, fill-times A h n f t);
          list = w.list ∙ (ap (λ ys. items_before c ++ (ys ++ items_after c)) (fill-items A h f t) ∙ regroup A
              (items_before c) (before_in f) (items_under A h t) (after_in f) (items_after c));
          root_is = sym (ap (root_above c) (fill-id A h f t)) ∙ w.root_is;
        }

    -- a focus at the root
    pub record AtRoot : Type 0 where
      pub height : ℕ
      pub subtree : Subtree A height
      pub focused : IsUnsizedFocus A node_at spare root xs height top subtree

    pub unsized-root : (h : ℕ) (c : Path A h) (t : Subtree A h) → IsUnsizedFocus A node_at spare root xs h c t → AtRoot
    unsized-root h top t s = record { height = h; subtree = t; focused = s }
    unsized-root h (under f c) t s = unsized-root (suc h) c (fill f t) (unsized-up h f c t s)

    -- a focus at one of the nodes
    pub record AtNode (id : ℕ) : Type 0 where
      pub height : ℕ
      pub path : Path A height
      pub subtree : Subtree A height
      pub here : id_of A height subtree ≡ id
      pub focused : IsUnsizedFocus A node_at spare root xs height path subtree

    pub unsized-at : (id h : ℕ) (c : Path A h) (t : Subtree A h) → IsUnsizedFocus A node_at spare root xs h c t
        → 0 < times_under A h id t → AtNode id
    unsized-at id zero c t w p =
        elim (same-or id t.0) [
          | inl e ↦ record { height = 0; path = c; subtree = t; here = sym e; focused = w }
          | inr ne ↦ absurd (let o = one-other id t.0 ne in let k : ⊥ = omega arith in k)
        ]
    unsized-at id (suc h) c t w p =
        elim (same-or id t.0) [
          | inl e ↦ record { height = suc h; path = c; subtree = t; here = sym e; focused = w }
          | inr ne ↦ elim (zero-or (times_under A h id t.1)) [
            | inr q ↦ unsized-at id h (under (at_first t.0 t.2) c) t.1 (unsized-down h (at_first t.0 t.2) c t.1 w) q
            | inl q ↦
                let o = one-other id t.0 ne in
                let k = pick (λ (b : A × Subtree A h). times_under A h id b.1) t.2 (omega arith) in
                let f : Frame A h = at_branch t.0 t.1 k.front k.found.0 k.back in
                let w' : IsUnsizedFocus A node_at spare root xs (suc h) c (fill f k.found.1) =
                subst (λ (bs : List (A × Subtree A h)). IsUnsizedFocus A node_at spare root xs (suc h) c (t.0, t.1, bs)) k.is w in
                unsized-at id h (under f c) k.found.1 (unsized-down h f c k.found.1 w') k.some
          ]
        ]
