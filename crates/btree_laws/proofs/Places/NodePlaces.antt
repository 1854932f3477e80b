-- The places of the addresses of a node, by a focus at it.
use Rattle.btree_laws.proofs.Common.{◌≡◌, ◌≤◌, ◌++◌, ◌∷◌, [], ◌∙◌, ◌+◌, ℕ, zero, suc, inl, inr, List, length, map, take, Option, Some, refl, sym, ap, subst, arith, append_assoc, length-append, slice_get, NodeMap, View, item_in, items_of, IsEnd, IsPlace, IsPlaceOf, IsSubtreeAt, Subtree, count_at, id_of, items_under, later_items, view_at, Path, items_after, items_before, parent_above, IsUnsizedFocus, IsFocus}
use Rattle.std.proofs.lemmas.List.{take_all}
use Rattle.btree_laws.proofs.Paths.Frames.{top-view}
use Rattle.btree_laws.proofs.Places.HasPlace.{ahead, behind, low_or_end}
use Rattle.btree_laws.proofs.Trees.Sizes.{view-size}
use Rattle.btree_laws.proofs.Trees.Subtrees.{represents-of}
use Rattle.btree_laws.proofs.Paths.UnsizedFocus.{focus-unsized}

module _ (A : Type 0) where
  -- the number of items of a subtree before an offset of its root
  abbrev pub items_upto : (h : ℕ) → Subtree A h → ℕ → ℕ
  items_upto zero t o = o
  items_upto (suc h) t o = length (items_under A h t.1 ++ later_items A h (take o t.2))

  pub upto-all : (h : ℕ) (t : Subtree A h) → items_upto h t (count_at A h t) ≡ length (items_under A h t)
  upto-all zero t = refl
  upto-all (suc h) t = rw (take_all (length t.2) t.2 (omega arith)) refl

  branch-item : (h : ℕ) (bs : List (A × Subtree A h)) (o : ℕ) (x : A) → slice_get
      (map {B = A} (λ b. b.0) (map {B = A × ℕ} (λ (b : A × Subtree A h). (b.0, id_of A h b.1)) bs)) o ≡ Some x
      → slice_get (later_items A h bs) (length (later_items A h (take o bs))) ≡ Some x
  branch-item h [] o x e = absurd (cc)
  branch-item h (b ∷ bs) zero x e = e
  branch-item h (b ∷ bs) (suc o) x e =
      let r = branch-item h bs o x e in
      let l = length-append (b.0 ∷ items_under A h b.1) (later_items A h (take o bs)) in
      ap (slice_get ((b.0 ∷ items_under A h b.1) ++ later_items A h bs)) l
      ∙ behind (b.0 ∷ items_under A h b.1) (later_items A h bs) (length (later_items A h (take o bs))) x r

  -- an item of a node is in its subtree's list after those before its offset
  pub upto-item : (h : ℕ) (p : Option ℕ) (t : Subtree A h) (o : ℕ) (x : A)
      → slice_get (items_of (view_at A h p t)) o ≡ Some x → slice_get (items_under A h t) (items_upto h t o) ≡ Some x
  upto-item zero p t o x e = e
  upto-item (suc h) p t o x e =
      let r = branch-item h t.2 o x e in
      ap (slice_get (items_under A h t.1 ++ later_items A h t.2))
      (length-append (items_under A h t.1) (later_items A h (take o t.2)))
      ∙ behind (items_under A h t.1) (later_items A h t.2) (length (later_items A h (take o t.2))) x r

  module _ (node_at : NodeMap A) (spare : List ℕ) (root : ℕ) (xs : List A) where
    -- the items of the subtree at the hole
    pub unsized-subtree : (h : ℕ) (c : Path A h) (t : Subtree A h) → IsUnsizedFocus A node_at spare root xs h c t
        → IsSubtreeAt node_at xs (id_of A h t) (items_under A h t) (length (items_before c))
    unsized-subtree h c t w = record {
      front = items_before c;
      back = items_after c;
      subtree = record { height = h; parent = parent_above c; represents = represents-of A node_at h (parent_above c) t w.inner };
      split = w.list ∙ sym (append_assoc (items_before c) (items_under A h t) (items_after c));
      counted = refl;
    }

    -- the place of an offset of the node at the hole
    pub unsized-place : (h : ℕ) (c : Path A h) (t : Subtree A h) → IsUnsizedFocus A node_at spare root xs h c t → (o : ℕ)
        → o ≤ count_at A h t
        → IsPlace node_at (Some root) xs (id_of A h t) (Some o) (length (items_before c) + items_upto h t o)
    unsized-place h c t w o low =
        let v : View A = view_at A h (parent_above c) t in
        let e = top-view A node_at h (parent_above c) t w.inner in
        let n = view-size A h (parent_above c) t in
        elim (low_or_end (items_of v) o (omega arith)) [
          | inl at ↦
              let here : item_in (node_at (id_of A h t)) o ≡ Some at.0 = ap (λ w. item_in w o) e ∙ at.1 in
              let inner =
              behind (items_before c) (items_under A h t) (items_upto h t o) at.0
              (upto-item h (parent_above c) t o at.0 at.1) in
              let full =
              ahead (items_before c ++ items_under A h t) (items_after c) (length (items_before c) + items_upto h t o)
              at.0 inner in
              let list = w.list ∙ sym (append_assoc (items_before c) (items_under A h t) (items_after c)) in
              inl (subst (λ w. IsPlaceOf node_at xs w (length (items_before c) + items_upto h t o)) (sym here)
              (ap (λ l. slice_get l (length (items_before c) + items_upto h t o)) list ∙ full))
          | inr end ↦
              let all : items_upto h t o ≡ length (items_under A h t) = ap (items_upto h t) (end ∙ n) ∙ upto-all h t in
              inr (
                subst (λ w. IsEnd node_at w o) (sym e) end,
                (
                  items_under A h t,
                  length (items_before c),
                  unsized-subtree h c t w,
                  ap (λ z. length (items_before c) + z) all,
                ),
              )
        ]

    pub hole-place : (h : ℕ) (c : Path A h) (t : Subtree A h) → IsFocus A node_at spare root xs h c t → (o : ℕ)
        → o ≤ count_at A h t
        → IsPlace node_at (Some root) xs (id_of A h t) (Some o) (length (items_before c) + items_upto h t o)
    hole-place h c t w = unsized-place h c t (focus-unsized A node_at spare root xs h c t w)
