-- The first item is taken where it lies: what is left then, before the nodes without items are removed.
use Rattle.btree_owned_walk.proofs.Common.{◌≡◌, ◌≢◌, ◌<◌, ◌≤◌, inl, inr, ℕ, zero, suc, ◌+◌, List, [], ◌∷◌, ◌++◌, map, Option, Some, None, sym, ap, subst, ◌∙◌, arith, AllByRecursion, View, internal, NodeMap, HasChildFor, pushed_left, one, total, Subtree, id_of, items_under, later_items, times_under, view_at, one-self, HasAny, FirstGone, HoldsRest, HoldsDownTo, OnFirst, AtFirst, first_gone, first_out, without_first, AreApart}
use Rattle.btree_laws.proofs.LookUp.Descent.{cons-parts}
use Rattle.btree_owned_walk.proofs.RestLemmas.{at-first-any, at-first-under, first-id, gone-none, internal-pop, leaf-pop, out-gone, out-left, same-rest, same-rests, any-or, top-gone, top-there, top-used}

pub nil-cons : {X : Type 0} (x : X) (xs : List X) → [] ≡ x ∷ xs → ⊥
nil-cons x xs e = cc

module _ (A : Type 0) where
  -- a number that goes with the first item was that of a node that is gone
  pub first-only : (node_at : NodeMap A) (h : ℕ) (p : Option ℕ) (t : Subtree A h) → HoldsRest A node_at h p t → (n : ℕ)
      → 0 < times_under A h n t → times_under A h n (without_first A h t) ≡ 0 → node_at n ≡ None
  first-only node_at zero p t d n u z = absurd (omega arith)
  first-only node_at (suc h) p t d n u z =
      elim (any-or (items_under A h t.1)) [
        | inl none ↦ gone t.0 t.1 t.2 d.1 none (subst (λ s. times_under A (suc h) n s ≡ 0) (out-gone A h (items_under A h t.1) (without_first A h t.1) t none) z) u
        | inr some ↦
            (let z' : times_under A (suc h) n (t.0, without_first A h t.1, t.2) ≡ 0 = subst (λ s. times_under A (suc h) n s ≡ 0) (out-left A h (items_under A h t.1) (without_first A h t.1) t some) z in
            first-only node_at h (Some t.0) t.1 d.1 n (omega arith) (omega arith))
      ]
    where
      gone : (i : ℕ) (c : Subtree A h) (bs : List (A × Subtree A h)) → HoldsRest A node_at h (Some i) c → items_under A h c ≡ []
          → times_under A (suc h) n (first_gone A h i c bs) ≡ 0 → 0 < times_under A (suc h) n (i, c, bs) → node_at n ≡ None
      gone i c [] dc e z u = absurd (omega arith)
      gone i c (b ∷ bs) dc e z u = gone-none A node_at h (Some i) c dc e n (omega arith)

  module _ (node_at new : NodeMap A) (id : ℕ) (v w : View A) (x : A) (child : Option ℕ) (e : node_at id ≡ Some v)
      (bare : FirstGone node_at v) (kind : HasChildFor child v) (popped : v ≡ pushed_left x child w)
      (here : new id ≡ Some w) (others : (n : ℕ) → n ≢ id → new n ≡ node_at n) where
    -- at an internal node whose first child is gone
    at-gone : (h : ℕ) (p : Option ℕ) (i : ℕ) (c : Subtree A h) (bs : List (A × Subtree A h)) → i ≡ id
        → view_at A (suc h) p (i, c, bs) ≡ v → items_under A h c ≡ []
        → AllByRecursion (λ b. HoldsRest A node_at h (Some i) b.1) bs
        → ((n : ℕ) → times_under A (suc h) n (i, c, bs) ≤ 1)
        → HoldsDownTo A new id (suc h) p (first_gone A h i c bs) × (later_items A h bs ≡ x ∷ items_under A (suc h) (first_gone A h i c bs))
    at-gone h p i c [] is view none d apart =
        let r = internal-pop p (id_of A h c) [] x child w (subst (HasChildFor child) (sym view) kind) (view ∙ popped) in
        absurd (nil-cons (x, r.0) r.1 r.2)
    at-gone h p i c (b ∷ bs) is view none d apart =
        let r = internal-pop p (id_of A h c) (map (λ (b : A × Subtree A h). (b.0, id_of A h b.1)) (b ∷ bs)) x child w (subst (HasChildFor child) (sym view) kind) (view ∙ popped) in
        let parts = cons-parts {X = A × ℕ} {x = (b.0, id_of A h b.1)} {y = (x, r.0)} {xs = map (λ (b : A × Subtree A h). (b.0, id_of A h b.1)) bs} {ys = r.1} r.2 in
        let item : b.0 ≡ x = ap (λ q. q.0) parts.0 in
        let first : id_of A h b.1 ≡ r.0 = ap (λ q. q.1) parts.0 in
        let rest : map (λ (b : A × Subtree A h). (b.0, id_of A h b.1)) bs ≡ r.1 = parts.1 in
        let there : w ≡ view_at A (suc h) p (i, b.1, bs) = r.3 ∙ ap (λ f. internal p f r.1) (sym first) ∙ ap (λ l. internal p (id_of A h b.1) l) (sym rest) in
        let apart-here : (n : ℕ) → 0 < times_under A h n b.1 + total (λ b. times_under A h n b.1) bs → n ≢ id =
        λ n u same. (let q = apart n in let one-is : one n i ≡ 1 = ap (one n) (is ∙ sym same) ∙ one-self n in omega arith) in (
          (
            ap new is ∙ here ∙ ap Some there,
            inl (
              is,
              same-rest A node_at new h (Some i) b.1 d.0 (λ n u. others n (apart-here n (omega arith))),
              same-rests A node_at new h (Some i) bs d.1 (λ n u. others n (apart-here n (omega arith))),
            ),
          ),
          ap (λ y. y ∷ (items_under A h b.1 ++ later_items A h bs)) item,
        )

    pub takes-first : (h : ℕ) (p : Option ℕ) (t : Subtree A h) → HoldsRest A node_at h p t → AreApart A h t → AtFirst A id h t
        → HoldsDownTo A new id h p (without_first A h t) × (items_under A h t ≡ x ∷ items_under A h (without_first A h t))
    takes-first zero p t d apart at =
        let view = (top-used A node_at zero p t d v (ap node_at at.0 ∙ e)).1 in
        let r = leaf-pop p t.1 x child w (view ∙ popped) in
        ((at.0, ap new at.0 ∙ here ∙ ap Some r.0), r.1)
    takes-first (suc h) p t d apart at =
        elim at.1 [
          | inl is ↦
              (let view = (top-used A node_at (suc h) p t d v (ap node_at is ∙ e)).1 in
              let gone : node_at (id_of A h t.1) ≡ None = subst (FirstGone node_at) (sym view) bare in
              let none = top-gone A node_at h (Some t.0) t.1 d.1 gone in
              let out = out-gone A h (items_under A h t.1) (without_first A h t.1) t none in
              let r = at-gone h p t.0 t.1 t.2 is view none d.2 apart in (
                subst (HoldsDownTo A new id (suc h) p) (sym out) r.0,
                ap (λ l. l ++ later_items A h t.2) none ∙ r.1 ∙ ap (λ s. x ∷ items_under A (suc h) s) (sym out),
              ))
          | inr below ↦
              (let some = at-first-any A id h t.1 below in
              let out = out-left A h (items_under A h t.1) (without_first A h t.1) t some in
              let under = at-first-under A h t.1 id below in
              let r = takes-first h (Some t.0) t.1 d.1 (λ n. let q = apart n in omega arith) below in
              let own : t.0 ≢ id = λ same. (let q = apart id in let one-is : one id t.0 ≡ 1 = ap (one id) same ∙ one-self id in omega arith) in
              let apart-here : (n : ℕ) → 0 < total (λ b. times_under A h n b.1) t.2 → n ≢ id =
              λ n u same. (let q = apart id in let u' : 0 < total (λ b. times_under A h id b.1) t.2 = subst (λ m. 0 < total (λ b. times_under A h m b.1) t.2) same u in omega arith) in
              let view : view_at A (suc h) p t ≡ view_at A (suc h) p (t.0, without_first A h t.1, t.2) =
              ap (λ f. internal p f (map (λ (b : A × Subtree A h). (b.0, id_of A h b.1)) t.2)) (sym (first-id A h t.1)) in (
                subst (HoldsDownTo A new id (suc h) p) (sym out) (
                  others t.0 own ∙ top-there A node_at (suc h) p t d at.0 ∙ ap Some view,
                  inr (inl (r.0, same-rests A node_at new h (Some t.0) t.2 d.2 (λ n u. others n (apart-here n u)))),
                ),
                ap (λ l. l ++ later_items A h t.2) r.1 ∙ ap (λ s. x ∷ items_under A (suc h) s) (sym out),
              ))
        ]

  -- the node that had the first item is on the way to the first item that is left
  pub stays-first : (h : ℕ) (t : Subtree A h) (id : ℕ) → AtFirst A id h t → OnFirst A id h (without_first A h t)
  stays-first zero t id at = at.0
  stays-first (suc h) t id at =
      elim at.1 [
        | inl is ↦ of (items_under A h t.1) t.0 t.1 t.2 is
        | inr below ↦ subst (OnFirst A id (suc h)) (sym (out-left A h (items_under A h t.1) (without_first A h t.1) t (at-first-any A id h t.1 below)))
            (inr (stays-first h t.1 id below))
      ]
    where
      of : (xs : List A) (i : ℕ) (c : Subtree A h) (bs : List (A × Subtree A h)) → i ≡ id
          → OnFirst A id (suc h) (first_out A h xs (without_first A h c) (i, c, bs))
      of (x ∷ xs) i c bs is = inl is
      of [] i c [] is = inl is
      of [] i c (b ∷ bs) is = inl is

  -- a node on the way to the first item is at it, if it is there
  pub first-there : (node_at : NodeMap A) (h : ℕ) (p : Option ℕ) (t : Subtree A h) → HoldsRest A node_at h p t → (id : ℕ)
      → OnFirst A id h t → (v : View A) → node_at id ≡ Some v → AtFirst A id h t
  first-there node_at zero p t d id on v e = (on, (top-used A node_at zero p t d v (ap node_at on ∙ e)).0)
  first-there node_at (suc h) p t d id on v e =
      elim on [
        | inl is ↦ ((top-used A node_at (suc h) p t d v (ap node_at is ∙ e)).0, inl is)
        | inr below ↦
            (let r = first-there node_at h (Some t.0) t.1 d.1 id below v e in
            (some-left (items_under A h t.1) (later_items A h t.2) (at-first-any A id h t.1 r), inr r))
      ]
    where
      some-left : (xs ys : List A) → HasAny xs → HasAny (xs ++ ys)
      some-left [] ys a = absurd (omega arith)
      some-left (y ∷ xs) ys a = omega arith
