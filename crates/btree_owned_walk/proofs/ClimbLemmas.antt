-- Nodes in which nothing is left are removed, from one node upward.
use Rattle.btree_owned_walk.proofs.Common.{◌≡◌, ◌≢◌, ◌<◌, ◌≤◌, ◌⊎◌, inl, inr, ℕ, zero, suc, ◌+◌, List, [], ◌∷◌, ◌++◌, map, Option, Some, None, refl, sym, ap, subst, ◌∙◌, arith, same_Some, AllByRecursion, View, leaf, NodeMap, parent_of, one, total, Subtree, id_of, items_under, later_items, times_under, view_at, one-self, HasAny, FirstGone, HoldsRest, DownIn, HoldsDownTo, AreApart}
use Rattle.btree_view.specs.View.{items_of}
use Rattle.btree_owned_walk.proofs.RestLemmas.{any-is, any-left, any-or, any-right, gone-any, same-rest, same-rests, top-gone, top-rest}

bare-map : {X Y : Type 0} (f : X → Y) (xs : List X) → map f xs ≡ [] → xs ≡ []
bare-map f [] e = refl
bare-map f (x ∷ xs) e = absurd (cc)

module _ (A : Type 0) where
  down-in-under : (node_at : NodeMap A) (id h : ℕ) (p : Option ℕ)
      → ((t : Subtree A h) → HoldsDownTo A node_at id h p t → 0 < times_under A h id t)
      → (bs : List (A × Subtree A h)) → DownIn A node_at h p (HoldsDownTo A node_at id h p) bs
      → 0 < total (λ b. times_under A h id b.1) bs
  down-in-under node_at id h p each [] d = absurd d
  down-in-under node_at id h p each (b ∷ bs) d =
      elim d [
        | inl x ↦ (let q = each b.1 x.0 in omega arith)
        | inr x ↦ (let q = down-in-under node_at id h p each bs x.1 in omega arith)
      ]

  -- the node that a way down ends at is in the subtree
  pub down-under : (node_at : NodeMap A) (id h : ℕ) (p : Option ℕ) (t : Subtree A h) → HoldsDownTo A node_at id h p t
      → 0 < times_under A h id t
  down-under node_at id zero p t d = subst (λ i. 0 < one i t.0) d.0 (omega (arith, one-self t.0))
  down-under node_at id (suc h) p t d =
      elim d.1 [
        | inl x ↦ subst (λ i. 0 < times_under A (suc h) i t) x.0 (omega (arith, one-self t.0))
        | inr x ↦ elim x [
          | inl y ↦ (let q = down-under node_at id h (Some t.0) t.1 y.0 in omega arith)
          | inr y ↦ (let q = down-in-under node_at id h (Some t.0) (down-under node_at id h (Some t.0)) t.2 y.1 in omega arith)
        ]
      ]

  pub down-top : (node_at : NodeMap A) (id h : ℕ) (p : Option ℕ) (t : Subtree A h) → HoldsDownTo A node_at id h p t
      → node_at (id_of A h t) ≡ Some (view_at A h p t)
  down-top node_at id zero p t d = d.1
  down-top node_at id (suc h) p t d = d.0

  -- the node is there
  down-in-used : (node_at : NodeMap A) (id h : ℕ) (p : Option ℕ)
      → ((t : Subtree A h) → HoldsDownTo A node_at id h p t → (v : View A) × (node_at id ≡ Some v))
      → (bs : List (A × Subtree A h)) → DownIn A node_at h p (HoldsDownTo A node_at id h p) bs → (v : View A) × (node_at id ≡ Some v)
  down-in-used node_at id h p each [] d = absurd d
  down-in-used node_at id h p each (b ∷ bs) d =
      elim d [ inl x ↦ each b.1 x.0 | inr x ↦ down-in-used node_at id h p each bs x.1 ]

  pub down-used : (node_at : NodeMap A) (id h : ℕ) (p : Option ℕ) (t : Subtree A h) → HoldsDownTo A node_at id h p t
      → (v : View A) × (node_at id ≡ Some v)
  down-used node_at id zero p t d = (leaf p t.1, ap node_at (sym d.0) ∙ d.1)
  down-used node_at id (suc h) p t d =
      elim d.1 [
        | inl x ↦ (view_at A (suc h) p t, ap node_at (sym x.0) ∙ d.0)
        | inr x ↦ elim x [
          | inl y ↦ down-used node_at id h (Some t.0) t.1 y.0
          | inr y ↦ down-in-used node_at id h (Some t.0) (down-used node_at id h (Some t.0)) t.2 y.1
        ]
      ]

  -- nothing is left under an internal node with no item and without its first child
  pub spent-none : (h : ℕ) (p : Option ℕ) (t : Subtree A (suc h)) → items_of (view_at A (suc h) p t) ≡ [] → items_under A h t.1 ≡ []
      → items_under A (suc h) t ≡ []
  spent-none h p t e f =
      let bare = bare-map (λ (b : A × Subtree A h). (b.0, id_of A h b.1)) t.2 (bare-map {X = A × ℕ} (λ b. b.0) _ e) in
      ap (λ l. l ++ later_items A h t.2) f ∙ ap (later_items A h) bare

  module _ (node_at new : NodeMap A) (id : ℕ) (v : View A) (e : node_at id ≡ Some v) (none : items_of v ≡ [])
      (bare : FirstGone node_at v) (gone : new id ≡ None) (others : (n : ℕ) → n ≢ id → new n ≡ node_at n) where
    same-view : (i : ℕ) (w : View A) → i ≡ id → node_at i ≡ Some w → v ≡ w
    same-view i w is f = same_Some _ _ (sym e ∙ ap node_at (sym is) ∙ f)

    -- the node was the subtree's root, and nothing is left of the subtree; or its parent is now the one to look at
    abbrev pub IsClimbed : (h : ℕ) → Option ℕ → Subtree A h → Type 0
    IsClimbed h p t =
        ((id_of A h t ≡ id) × (parent_of v ≡ p) × HoldsRest A new h p t × (items_under A h t ≡ []))
        ⊎ ((q : ℕ) × (parent_of v ≡ Some q) × HoldsDownTo A new q h p t)

    abbrev IsClimbedIn : (h i : ℕ) → List (A × Subtree A h) → Type 0
    IsClimbedIn h i bs =
        ((parent_of v ≡ Some i) × AllByRecursion (λ b. HoldsRest A new h (Some i) b.1) bs)
        ⊎ ((q : ℕ) × (parent_of v ≡ Some q) × DownIn A new h (Some i) (HoldsDownTo A new q h (Some i)) bs)

    climbs-in : (h i : ℕ) → ((t : Subtree A h) → HoldsDownTo A node_at id h (Some i) t → AreApart A h t → IsClimbed h (Some i) t)
        → (bs : List (A × Subtree A h)) → DownIn A node_at h (Some i) (HoldsDownTo A node_at id h (Some i)) bs
        → ((n : ℕ) → total (λ b. times_under A h n b.1) bs ≤ 1) → IsClimbedIn h i bs
    climbs-in h i each [] d apart = absurd d
    climbs-in h i each (b ∷ bs) d apart =
        elim d [
          | inl x ↦
              (let under = down-under node_at id h (Some i) b.1 x.0 in
              let rest = same-rests A node_at new h (Some i) bs x.1 (λ n u. others n (λ same. (let q = apart id in
              let u' : 0 < total (λ b. times_under A h id b.1) bs = subst (λ m. 0 < total (λ b. times_under A h m b.1) bs) same u in omega arith))) in
              elim (each b.1 x.0 (λ n. (let q = apart n in omega arith))) [
                | inl r ↦ inl (r.1, (r.2, rest))
                | inr r ↦ inr (r.0, r.1, inl (r.2, rest))
              ])
          | inr x ↦
              (let under = down-in-under node_at id h (Some i) (down-under node_at id h (Some i)) bs x.1 in
              let first = same-rest A node_at new h (Some i) b.1 x.0 (λ n u. others n (λ same. (let q = apart id in
              let u' : 0 < times_under A h id b.1 = subst (λ m. 0 < times_under A h m b.1) same u in omega arith))) in
              elim (climbs-in h i each bs x.1 (λ n. (let q = apart n in omega arith))) [
                | inl r ↦ inl (r.0, (first, r.1))
                | inr r ↦ inr (r.0, r.1, inr (first, r.2))
              ])
        ]

    pub climbs : (h : ℕ) (p : Option ℕ) (t : Subtree A h) → HoldsDownTo A node_at id h p t → AreApart A h t → IsClimbed h p t
    climbs zero p t d apart =
        let is = same-view t.0 (leaf p t.1) d.0 d.1 in
        let bare-here : t.1 ≡ [] = subst (λ w. items_of w ≡ []) is none in
        inl (d.0, ap parent_of is, ap new d.0 ∙ gone ∙ sym (gone-any t.1 (leaf p t.1) bare-here), bare-here)
    climbs (suc h) p t d apart =
        elim d.1 [
          | inl x ↦
              (let is = same-view t.0 (view_at A (suc h) p t) x.0 d.0 in
              let first = top-gone A node_at h (Some t.0) t.1 x.1 (subst (FirstGone node_at) is bare) in
              let nothing = spent-none h p t (subst (λ w. items_of w ≡ []) is none) first in
              let own : (n : ℕ) → 0 < times_under A h n t.1 + total (λ b. times_under A h n b.1) t.2 → n ≢ id =
              λ n u same. (let q = apart n in let one-is : one n t.0 ≡ 1 = ap (one n) (x.0 ∙ sym same) ∙ one-self n in omega arith) in
              inl (
                x.0,
                ap parent_of is,
                (
                  ap new x.0 ∙ gone ∙ sym (gone-any (items_under A (suc h) t) (view_at A (suc h) p t) nothing),
                  same-rest A node_at new h (Some t.0) t.1 x.1 (λ n u. others n (own n (omega arith))),
                  same-rests A node_at new h (Some t.0) t.2 x.2 (λ n u. others n (own n (omega arith))),
                ),
                nothing,
              ))
          | inr x ↦ elim x [
            | inl y ↦
                (let under = down-under node_at id h (Some t.0) t.1 y.0 in
                let own : new t.0 ≡ Some (view_at A (suc h) p t) = others t.0 (λ same. (let q = apart id in
                let one-is : one id t.0 ≡ 1 = ap (one id) same ∙ one-self id in omega arith)) ∙ d.0 in
                let rest = same-rests A node_at new h (Some t.0) t.2 y.1 (λ n u. others n (λ same. (let q = apart id in
                let u' : 0 < total (λ b. times_under A h id b.1) t.2 = subst (λ m. 0 < total (λ b. times_under A h m b.1) t.2) same u in omega arith))) in
                elim (climbs h (Some t.0) t.1 y.0 (λ n. (let q = apart n in omega arith))) [
                  | inl r ↦ inr (t.0, r.1, (own, inl (refl, r.2, rest)))
                  | inr r ↦ inr (r.0, r.1, (own, inr (inl (r.2, rest))))
                ])
            | inr y ↦
                (let under = down-in-under node_at id h (Some t.0) (down-under node_at id h (Some t.0)) t.2 y.1 in
                let own : new t.0 ≡ Some (view_at A (suc h) p t) = others t.0 (λ same. (let q = apart id in
                let one-is : one id t.0 ≡ 1 = ap (one id) same ∙ one-self id in omega arith)) ∙ d.0 in
                let first = same-rest A node_at new h (Some t.0) t.1 y.0 (λ n u. others n (λ same. (let q = apart id in
                let u' : 0 < times_under A h id t.1 = subst (λ m. 0 < times_under A h m t.1) same u in omega arith))) in
                elim (climbs-in h t.0 (climbs h (Some t.0)) t.2 y.1 (λ n. (let q = apart n in omega arith))) [
                  | inl r ↦ inr (t.0, r.0, (own, inl (refl, first, r.1)))
                  | inr r ↦ inr (r.0, r.1, (own, inr (inr (first, r.2))))
                ])
          ]
        ]

  -- a node that is not spent: nothing is missing above it
  module _ (node_at : NodeMap A) (id : ℕ) (v : View A) (e : node_at id ≡ Some v) (left : items_of v ≡ [] → FirstGone node_at v → ⊥) where
    stops-in : (h i : ℕ) → ((t : Subtree A h) → HoldsDownTo A node_at id h (Some i) t → HoldsRest A node_at h (Some i) t × HasAny (items_under A h t))
        → (bs : List (A × Subtree A h)) → DownIn A node_at h (Some i) (HoldsDownTo A node_at id h (Some i)) bs
        → AllByRecursion (λ b. HoldsRest A node_at h (Some i) b.1) bs × HasAny (later_items A h bs)
    stops-in h i each [] d = absurd d
    stops-in h i each (b ∷ bs) d =
        elim d [
          | inl x ↦ (((each b.1 x.0).0, x.1), omega arith)
          | inr x ↦ ((x.0, (stops-in h i each bs x.1).0), omega arith)
        ]

    pub stops : (h : ℕ) (p : Option ℕ) (t : Subtree A h) → HoldsDownTo A node_at id h p t
        → HoldsRest A node_at h p t × HasAny (items_under A h t)
    stops zero p t d =
        let is : v ≡ leaf p t.1 = same_Some _ _ (sym e ∙ ap node_at (sym d.0) ∙ d.1) in
        elim (any-or t.1) [
          | inl none ↦ absurd (subst (λ w. (items_of w ≡ [] → FirstGone node_at w → ⊥)) is left none tt)
          | inr some ↦ (d.1 ∙ sym (any-is t.1 (leaf p t.1) some), some)
        ]
    stops (suc h) p t d =
        elim d.1 [
          | inl x ↦
              (let is : v ≡ view_at A (suc h) p t = same_Some _ _ (sym e ∙ ap node_at (sym x.0) ∙ d.0) in
              elim (any-or (items_under A (suc h) t)) [
                | inl none ↦ absurd (subst (λ w. (items_of w ≡ [] → FirstGone node_at w → ⊥)) is left (no-items h p t none)
                    (top-rest A node_at h (Some t.0) t.1 x.1 ∙ gone-any (items_under A h t.1) (view_at A h (Some t.0) t.1) (no-first h t none)))
                | inr some ↦ ((d.0 ∙ sym (any-is (items_under A (suc h) t) (view_at A (suc h) p t) some), x.1, x.2), some)
              ])
          | inr x ↦ elim x [
            | inl y ↦
                (let r = stops h (Some t.0) t.1 y.0 in
                let some = any-left (items_under A h t.1) (later_items A h t.2) r.1 in
                ((d.0 ∙ sym (any-is (items_under A (suc h) t) (view_at A (suc h) p t) some), r.0, y.1), some))
            | inr y ↦
                (let r = stops-in h t.0 (stops h (Some t.0)) t.2 y.1 in
                let some = any-right (items_under A h t.1) (later_items A h t.2) r.1 in
                ((d.0 ∙ sym (any-is (items_under A (suc h) t) (view_at A (suc h) p t) some), y.0, r.0), some))
          ]
        ]
      where
        no-first : (h : ℕ) (t : Subtree A (suc h)) → items_under A (suc h) t ≡ [] → items_under A h t.1 ≡ []
        no-first h t e = of (items_under A h t.1) e
          where
            of : (xs : List A) → xs ++ later_items A h t.2 ≡ [] → xs ≡ []
            of [] e = refl
            of (x ∷ xs) e = absurd (cc)

        no-items : (h : ℕ) (p : Option ℕ) (t : Subtree A (suc h)) → items_under A (suc h) t ≡ [] → items_of (view_at A (suc h) p t) ≡ []
        no-items h p t e = of (items_under A h t.1) t.2 e
          where
            of : (xs : List A) (bs : List (A × Subtree A h)) → xs ++ later_items A h bs ≡ []
                → map {B = A} (λ b. b.0) (map {B = A × ℕ} (λ (b : A × Subtree A h). (b.0, id_of A h b.1)) bs) ≡ []
            of xs [] e = refl
            of [] (b ∷ bs) e = absurd (cc)
            of (x ∷ xs) (b ∷ bs) e = absurd (cc)
