-- The focus moves from a node to its parent and to a child: the tree stays the same.
use Rattle.btree_laws.proofs.Common.{◌≡◌, ◌++◌, ◌∷◌, ◌∙◌, ℕ, suc, List, sym, ap, subst, arith, append_assoc, NodeMap, IsFilled, IsFilledBelow, Subtree, count_at, items_under, Path, Frame, HoldsAbove, SiblingsFilled, after_in, at_branch, at_first, before_in, fill, frame_count, items_after, items_before, least_at, parent_above, root_above, under, IsFocus}
use Rattle.btree_laws.proofs.Paths.Frames.{AllByRecursion-left, AllByRecursion-right, fill-count, fill-filled, fill-holds, fill-id, fill-items, fill-times, open-holds}

module _ (A : Type 0) where
  pub regroup : (a b x c d : List A) → a ++ ((b ++ (x ++ c)) ++ d) ≡ (a ++ b) ++ (x ++ (c ++ d))
  regroup a b x c d = simp append_assoc

  module _ (node_at : NodeMap A) (spare : List ℕ) (root : ℕ) (xs : List A) where
    -- up to the parent
    pub close : (h : ℕ) (f : Frame A h) (c : Path A (suc h)) (t : Subtree A h)
        → IsFocus A node_at spare root xs h (under f c) t → IsFilled 3 h (count_at A h t)
        → IsFocus A node_at spare root xs (suc h) c (fill f t)
    close h f c t w z =
        record {
          above = subst (λ i. HoldsAbove node_at c i) (sym (fill-id A h f t)) w.above.2;
          inner = fill-holds A node_at h (parent_above c) f t w.above.0 w.above.1 w.inner;
          once = λ n. omega (arith, w.once n, fill-times A h n f t);
          filled = w.filled.2;
          below = fill-filled A h f t w.filled.1 z w.below;
          list = w.list ∙ sym (ap (λ ys. items_before c ++ (ys ++ items_after c)) (fill-items A h f t) ∙ regroup
              (items_before c) (before_in f) (items_under A h t) (after_in f) (items_after c));
          root_is = ap (root_above c) (fill-id A h f t) ∙ w.root_is;
        }

    pub record Below (h : ℕ) (f : Frame A h) (t : Subtree A h) : Type 0 where
      pub siblings : SiblingsFilled f
      pub sized : IsFilled 3 h (count_at A h t)
      pub inner : IsFilledBelow A h t

    open-filled : (h : ℕ) (f : Frame A h) (t : Subtree A h) → IsFilledBelow A (suc h) (fill f t) → Below h f t
    open-filled h (at_first i back) t b = record { siblings = b.2; sized = b.0; inner = b.1 }
    open-filled h (at_branch i first front x back) t b =
        let P : A × Subtree A h → Type 0 = λ b. IsFilled 3 h (count_at A h b.1) × IsFilledBelow A h b.1 in
        let r = AllByRecursion-right P front ((x, t) ∷ back) b.2 in
        record {
          siblings = (b.0, b.1, AllByRecursion-left P front ((x, t) ∷ back) b.2, r.1);
          sized = r.0.0;
          inner =
              r.0.1;
        }

    -- down to a child
    pub descend : (h : ℕ) (f : Frame A h) (c : Path A (suc h)) (t : Subtree A h)
        → IsFocus A node_at spare root xs (suc h) c (fill f t)
        → IsFilled (least_at c) (suc h) (count_at A (suc h) (fill f t))
        → IsFocus A node_at spare root xs h (under f c) t × IsFilled 3 h (count_at A h t)
    descend h f c t w z =
        let o = open-holds A node_at h (parent_above c) f t w.inner in
        let b = open-filled h f t w.below in
        let z' : IsFilled (least_at c) (suc h) (frame_count f) =
        subst (λ n. IsFilled (least_at c) (suc h) n) (fill-count A h f t) z in (
          record {
            above = (o.node, o.siblings, subst (λ i. HoldsAbove node_at c i) (fill-id A h f t) w.above);
            inner = o.inner;
            once = λ n. omega (arith, w.once n, fill-times A h n f t);
            filled = (z', b.siblings, w.filled);
            below = b.inner;
            list = w.list ∙ (ap (λ ys. items_before c ++ (ys ++ items_after c)) (fill-items A h f t) ∙ regroup
                (items_before c) (before_in f) (items_under A h t) (after_in f) (items_after c));
            root_is = sym (ap (root_above c) (fill-id A h f t)) ∙ w.root_is;
          },
          b.sized,
        )
