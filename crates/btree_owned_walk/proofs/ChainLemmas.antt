-- The node above one on the way to the first item, or to the last, is on that way too.
use Rattle.btree_owned_walk.proofs.Common.{◌≡◌, ◌<◌, ◌≤◌, ◌⊎◌, inl, inr, ℕ, zero, suc, ◌+◌, List, [], ◌∷◌, ◌++◌, Option, Some, sym, ap, subst, ◌∙◌, arith, same_Some, AllByRecursion, View, NodeMap, parent_of, one, total, Subtree, id_of, items_under, later_items, times_under, view_at, one-self, HasAny, HoldsRest, DownIn, HoldsDownTo, OnFirst, OnLast, AtLast, last_of, AreApart}
use Rattle.btree_laws.proofs.Trees.Sizes.{view-parent}
use Rattle.btree_owned_walk.proofs.RestLemmas.{any-left, any-right, top-used}
use Rattle.btree_owned_walk.proofs.ClimbLemmas.{down-top, down-under}

module _ (A : Type 0) where
  pub on-first-under : (h : ℕ) (t : Subtree A h) (id : ℕ) → OnFirst A id h t → 0 < times_under A h id t
  on-first-under zero t id on = subst (λ i. 0 < one i t.0) on (omega (arith, one-self t.0))
  on-first-under (suc h) t id on =
      elim on [
        | inl is ↦ subst (λ i. 0 < times_under A (suc h) i t) is (omega (arith, one-self t.0))
        | inr below ↦ omega (arith, on-first-under h t.1 id below)
      ]

  pub last-times : (h : ℕ) (c : Subtree A h) (bs : List (A × Subtree A h)) (n : ℕ)
      → times_under A h n (last_of A h c bs) ≤ times_under A h n c + total (λ b. times_under A h n b.1) bs
  last-times h c [] n = omega arith
  last-times h c (b ∷ bs) n = let q = last-times h b.1 bs n in omega arith

  pub on-last-under : (h : ℕ) (t : Subtree A h) (id : ℕ) → OnLast A id h t → 0 < times_under A h id t
  on-last-under zero t id on = subst (λ i. 0 < one i t.0) on (omega (arith, one-self t.0))
  on-last-under (suc h) t id on =
      elim on [
        | inl is ↦ subst (λ i. 0 < times_under A (suc h) i t) is (omega (arith, one-self t.0))
        | inr below ↦ (let q = on-last-under h (last_of A h t.1 t.2) id below in let l = last-times h t.1 t.2 id in omega arith)
      ]

  module _ (node_at : NodeMap A) (id : ℕ) (v : View A) (e : node_at id ≡ Some v) where
    top-parent : (h i : ℕ) (t : Subtree A h) → HoldsDownTo A node_at id h (Some i) t → id_of A h t ≡ id → parent_of v ≡ Some i
    top-parent h i t d is =
        let same : v ≡ view_at A h (Some i) t = same_Some _ _ (sym e ∙ ap node_at (sym is) ∙ down-top A node_at id h (Some i) t d) in
        ap parent_of same ∙ view-parent A h (Some i) t

    pub climbs-first : (h : ℕ) (p : Option ℕ) (t : Subtree A h) → HoldsDownTo A node_at id h p t → AreApart A h t → OnFirst A id h t
        → (id_of A h t ≡ id) ⊎ ((q : ℕ) → parent_of v ≡ Some q → OnFirst A q h t)
    climbs-first zero p t d apart on = inl on
    climbs-first (suc h) p t d apart on =
        elim on [
          | inl is ↦ inl is
          | inr below ↦
              (let under = on-first-under h t.1 id below in
              elim d.1 [
                | inl x ↦ absurd (let q = apart id in let one-is : one id t.0 ≡ 1 = ap (one id) x.0 ∙ one-self id in omega arith)
                | inr x ↦ elim x [
                  | inl y ↦ inr (λ q par. elim (climbs-first h (Some t.0) t.1 y.0 (λ n. (let r = apart n in omega arith)) below) [
                    | inl same ↦ inl (same_Some _ _ (sym (top-parent h t.0 t.1 y.0 same) ∙ par))
                    | inr f ↦ inr (f q par)
                  ])
                  | inr y ↦ absurd (let q = apart id in let r = in-under h t.0 t.2 y.1 in omega arith)
                ]
              ])
        ]
      where
        in-under : (h i : ℕ) (bs : List (A × Subtree A h)) → DownIn A node_at h (Some i) (HoldsDownTo A node_at id h (Some i)) bs
            → 0 < total (λ b. times_under A h id b.1) bs
        in-under h i [] d = absurd d
        in-under h i (b ∷ bs) d =
            elim d [
              | inl x ↦ (let q = down-under A node_at id h (Some i) b.1 x.0 in omega arith)
              | inr x ↦ (let q = in-under h i bs x.1 in omega arith)
            ]

    -- among the children of a node, the way down is under the last one if the node is on the way to the last item
    last-down : (h i : ℕ) (c : Subtree A h) (bs : List (A × Subtree A h))
        → ((HoldsDownTo A node_at id h (Some i) c × AllByRecursion (λ b. HoldsRest A node_at h (Some i) b.1) bs)
        ⊎ (HoldsRest A node_at h (Some i) c × DownIn A node_at h (Some i) (HoldsDownTo A node_at id h (Some i)) bs))
        → ((n : ℕ) → times_under A h n c + total (λ b. times_under A h n b.1) bs ≤ 1) → 0 < times_under A h id (last_of A h c bs)
        → HoldsDownTo A node_at id h (Some i) (last_of A h c bs) × AreApart A h (last_of A h c bs)
    last-down h i c [] d apart u = elim d [ inl x ↦ (x.0, λ n. (let q = apart n in omega arith)) | inr x ↦ absurd x.1 ]
    last-down h i c (b ∷ bs) d apart u =
        elim d [
          | inl x ↦ absurd (let q = apart id in let r = down-under A node_at id h (Some i) c x.0 in let l = last-times h b.1 bs id in omega arith)
          | inr x ↦ last-down h i b.1 bs x.1 (λ n. (let q = apart n in omega arith)) u
        ]

    pub climbs-last : (h : ℕ) (p : Option ℕ) (t : Subtree A h) → HoldsDownTo A node_at id h p t → AreApart A h t → OnLast A id h t
        → (id_of A h t ≡ id) ⊎ ((q : ℕ) → parent_of v ≡ Some q → OnLast A q h t)
    climbs-last zero p t d apart on = inl on
    climbs-last (suc h) p t d apart on =
        elim on [
          | inl is ↦ inl is
          | inr below ↦
              (let under = on-last-under h (last_of A h t.1 t.2) id below in
              let few = last-times h t.1 t.2 id in
              elim d.1 [
                | inl x ↦ absurd (let q = apart id in let one-is : one id t.0 ≡ 1 = ap (one id) x.0 ∙ one-self id in omega arith)
                | inr x ↦
                    (let r = last-down h t.0 t.1 t.2 x (λ n. (let q = apart n in omega arith)) under in
                    inr (λ q par. elim (climbs-last h (Some t.0) (last_of A h t.1 t.2) r.0 r.1 below) [
                      | inl same ↦ inl (same_Some _ _ (sym (top-parent h t.0 (last_of A h t.1 t.2) r.0 same) ∙ par))
                      | inr f ↦ inr (f q par)
                    ]))
              ])
        ]

  -- what is left of the last child, and its items
  pub last-rest : (node_at : NodeMap A) (h : ℕ) (p : Option ℕ) (c : Subtree A h) (bs : List (A × Subtree A h))
      → HoldsRest A node_at h p c → AllByRecursion (λ b. HoldsRest A node_at h p b.1) bs → HoldsRest A node_at h p (last_of A h c bs)
  last-rest node_at h p c [] d ds = d
  last-rest node_at h p c (b ∷ bs) d ds = last-rest node_at h p b.1 bs ds.0 ds.1

  pub last-any : (h : ℕ) (c : Subtree A h) (bs : List (A × Subtree A h)) → HasAny (items_under A h (last_of A h c bs))
      → HasAny (items_under A h c ++ later_items A h bs)
  last-any h c [] a = any-left (items_under A h c) [] a
  last-any h c (b ∷ bs) a = any-right (items_under A h c) (later_items A h (b ∷ bs)) (omega arith)

  pub at-last-any : (id h : ℕ) (t : Subtree A h) → AtLast A id h t → HasAny (items_under A h t)
  at-last-any id zero t at = at.1
  at-last-any id (suc h) t at = at.0

  -- a node on the way to the last item is at it, if it is there
  pub last-there : (node_at : NodeMap A) (h : ℕ) (p : Option ℕ) (t : Subtree A h) → HoldsRest A node_at h p t → (id : ℕ)
      → OnLast A id h t → (v : View A) → node_at id ≡ Some v → AtLast A id h t
  last-there node_at zero p t d id on v e = (on, (top-used A node_at zero p t d v (ap node_at on ∙ e)).0)
  last-there node_at (suc h) p t d id on v e =
      elim on [
        | inl is ↦ ((top-used A node_at (suc h) p t d v (ap node_at is ∙ e)).0, inl is)
        | inr below ↦
            (let r = last-there node_at h (Some t.0) (last_of A h t.1 t.2) (last-rest node_at h (Some t.0) t.1 t.2 d.1 d.2) id below v e in
            (last-any h t.1 t.2 (at-last-any id h (last_of A h t.1 t.2) r), inr r))
      ]
