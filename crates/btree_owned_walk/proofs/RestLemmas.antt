-- What is left of a tree: its nodes in the store, and what a step at the front leaves.
use Rattle.btree_owned_walk.proofs.Common.{◌≡◌, ◌<◌, ◌≤◌, ◌⊎◌, inl, inr, ℕ, zero, suc, List, [], ◌∷◌, ◌++◌, Option, Some, None, refl, sym, ap, subst, ◌∙◌, arith, same_Some, AllByRecursion, View, leaf, internal, NodeMap, HasChildFor, pushed_left, one, total, Subtree, id_of, items_under, later_items, times_under, view_at, one-self, zero-or, HasAny, tail_of, HoldsRest, AtFirst, first_gone, first_out, without_first}
use Rattle.std.proofs.lemmas.Bool.Decides.{nat_tests}
use Rattle.btree_owned_walk.specs.Rest.{if_any}

pub none-some : {X : Type 0} (o : Option X) (x : X) → o ≡ None → o ≡ Some x → ⊥
none-some None x e f = cc
none-some (Some y) x e f = cc

pub any-is : {X Y : Type 0} (xs : List X) (y : Y) → HasAny xs → if_any xs y ≡ Some y
any-is [] y h = absurd (omega arith)
any-is (x ∷ xs) y h = refl

pub any-of : {X Y : Type 0} (xs : List X) (y z : Y) → if_any xs y ≡ Some z → HasAny xs × (y ≡ z)
any-of [] y z e = absurd (none-some None z refl e)
any-of (x ∷ xs) y z e = (omega arith, same_Some _ _ e)

pub any-gone : {X Y : Type 0} (xs : List X) (y : Y) → if_any xs y ≡ None → xs ≡ []
any-gone [] y e = refl
any-gone (x ∷ xs) y e = absurd (none-some _ y e refl)

pub gone-any : {X Y : Type 0} (xs : List X) (y : Y) → xs ≡ [] → if_any xs y ≡ None
gone-any [] y e = refl
gone-any (x ∷ xs) y e = absurd (cc)

pub any-or : {X : Type 0} (xs : List X) → (xs ≡ []) ⊎ HasAny xs
any-or [] = inl refl
any-or (x ∷ xs) = inr (omega arith)

pub no-any : {X : Type 0} (xs : List X) → xs ≡ [] → HasAny xs → ⊥
no-any [] e h = omega arith
no-any (x ∷ xs) e h = cc

pub any-left : {X : Type 0} (xs ys : List X) → HasAny xs → HasAny (xs ++ ys)
any-left [] ys h = absurd (omega arith)
any-left (x ∷ xs) ys h = omega arith

pub any-right : {X : Type 0} (xs ys : List X) → HasAny ys → HasAny (xs ++ ys)
any-right [] ys h = h
any-right (x ∷ xs) ys h = omega arith

module _ (A : Type 0) where
  -- the node at the root of what is left of a subtree
  pub top-rest : (node_at : NodeMap A) (h : ℕ) (p : Option ℕ) (t : Subtree A h) → HoldsRest A node_at h p t
      → node_at (id_of A h t) ≡ if_any (items_under A h t) (view_at A h p t)
  top-rest node_at zero p t d = d
  top-rest node_at (suc h) p t d = d.0

  pub top-there : (node_at : NodeMap A) (h : ℕ) (p : Option ℕ) (t : Subtree A h) → HoldsRest A node_at h p t
      → HasAny (items_under A h t) → node_at (id_of A h t) ≡ Some (view_at A h p t)
  top-there node_at h p t d a = top-rest node_at h p t d ∙ any-is (items_under A h t) (view_at A h p t) a

  pub top-used : (node_at : NodeMap A) (h : ℕ) (p : Option ℕ) (t : Subtree A h) → HoldsRest A node_at h p t
      → (v : View A) → node_at (id_of A h t) ≡ Some v → HasAny (items_under A h t) × (view_at A h p t ≡ v)
  top-used node_at h p t d v e =
      any-of (items_under A h t) (view_at A h p t) v (sym (top-rest node_at h p t d) ∙ e)

  pub top-gone : (node_at : NodeMap A) (h : ℕ) (p : Option ℕ) (t : Subtree A h) → HoldsRest A node_at h p t
      → node_at (id_of A h t) ≡ None → items_under A h t ≡ []
  top-gone node_at h p t d e = any-gone (items_under A h t) (view_at A h p t) (sym (top-rest node_at h p t d) ∙ e)

  pub root-at-first : (h : ℕ) (t : Subtree A h) → HasAny (items_under A h t) → AtFirst A (id_of A h t) h t
  root-at-first zero t a = (refl, a)
  root-at-first (suc h) t a = (a, inl refl)

  pub at-first-any : (id h : ℕ) (t : Subtree A h) → AtFirst A id h t → HasAny (items_under A h t)
  at-first-any id zero t at = at.1
  at-first-any id (suc h) t at = at.0

  -- what is left of a subtree is still there if its nodes are the same
  same-branches : (node_at new : NodeMap A) (h : ℕ) (p : Option ℕ)
      → ((t : Subtree A h) → HoldsRest A node_at h p t → ((n : ℕ) → 0 < times_under A h n t → new n ≡ node_at n) → HoldsRest A new h p t)
      → (bs : List (A × Subtree A h)) → AllByRecursion (λ b. HoldsRest A node_at h p b.1) bs
      → ((n : ℕ) → 0 < total (λ b. times_under A h n b.1) bs → new n ≡ node_at n)
      → AllByRecursion (λ b. HoldsRest A new h p b.1) bs
  same-branches node_at new h p each [] d s = tt
  same-branches node_at new h p each (b ∷ bs) d s =
      (each b.1 d.0 (λ n u. s n (omega arith)), same-branches node_at new h p each bs d.1 (λ n u. s n (omega arith)))

  pub same-rest : (node_at new : NodeMap A) (h : ℕ) (p : Option ℕ) (t : Subtree A h) → HoldsRest A node_at h p t
      → ((n : ℕ) → 0 < times_under A h n t → new n ≡ node_at n) → HoldsRest A new h p t
  same-rest node_at new zero p t d s = s t.0 (omega (arith, one-self t.0)) ∙ d
  same-rest node_at new (suc h) p t d s = (
    s t.0 (omega (arith, one-self t.0)) ∙ d.0,
    same-rest node_at new h (Some t.0) t.1 d.1 (λ n u. s n (omega arith)),
    same-branches node_at new h (Some t.0) (same-rest node_at new h (Some t.0)) t.2 d.2 (λ n u. s n (omega arith)),
  )

  pub same-rests : (node_at new : NodeMap A) (h : ℕ) (p : Option ℕ) (bs : List (A × Subtree A h))
      → AllByRecursion (λ b. HoldsRest A node_at h p b.1) bs
      → ((n : ℕ) → 0 < total (λ b. times_under A h n b.1) bs → new n ≡ node_at n)
      → AllByRecursion (λ b. HoldsRest A new h p b.1) bs
  same-rests node_at new h p bs d s = same-branches node_at new h p (same-rest node_at new h p) bs d s

  -- down to the first child, if it is not gone
  pub goes-first : (node_at : NodeMap A) (h : ℕ) (p : Option ℕ) (t : Subtree A h) → HoldsRest A node_at h p t
      → (id : ℕ) → AtFirst A id h t → (q : Option ℕ) (c : ℕ) (bs : List (A × ℕ)) → node_at id ≡ Some (internal q c bs)
      → (w : View A) → node_at c ≡ Some w → AtFirst A c h t
  goes-first node_at zero p t d id at q c bs e w f =
      let here : node_at t.0 ≡ Some (leaf p t.1) = top-there node_at zero p t d at.1 in
      let is : node_at t.0 ≡ Some (internal q c bs) = ap node_at at.0 ∙ e in
      absurd (cc)
  goes-first node_at (suc h) p t d id at q c bs e w f =
      elim at.1 [
        | inl here ↦
            (let is : view_at A (suc h) p t ≡ internal q c bs = (top-used node_at (suc h) p t d (internal q c bs) (ap node_at here ∙ e)).1 in
            let child : id_of A h t.1 ≡ c = cc in
            let there = (top-used node_at h (Some t.0) t.1 d.1 w (ap node_at child ∙ f)).0 in
            (at.0, inr (subst (λ i. AtFirst A i h t.1) child (root-at-first h t.1 there))))
        | inr below ↦ (at.0, inr (goes-first node_at h (Some t.0) t.1 d.1 id below q c bs e w f))
      ]

  pub at-first-under : (h : ℕ) (t : Subtree A h) (id : ℕ) → AtFirst A id h t → 0 < times_under A h id t
  at-first-under zero t id at = subst (λ i. 0 < one i t.0) at.0 (omega (arith, one-self t.0))
  at-first-under (suc h) t id at =
      elim at.1 [
        | inl here ↦ subst (λ i. 0 < times_under A (suc h) i t) here (omega (arith, one-self t.0))
        | inr below ↦ omega (arith, at-first-under h t.1 id below)
      ]

-- a leaf without its first item, and an internal node without its first item and the child before it
pub leaf-pop : {A : Type 0} (p : Option ℕ) (xs : List A) (x : A) (child : Option ℕ) (w : View A)
    → leaf p xs ≡ pushed_left x child w → (w ≡ leaf p (tail_of xs)) × (xs ≡ x ∷ tail_of xs)
leaf-pop p xs x child (leaf q ys) e =
    let same : xs ≡ x ∷ ys = cc in
    let rest : tail_of xs ≡ ys = ap tail_of same in
    let parent : p ≡ q = cc in
    (cc, same ∙ ap (λ l. x ∷ l) (sym rest))
leaf-pop p xs x None (internal q c bs) e = absurd (cc)
leaf-pop p xs x (Some k) (internal q c bs) e = absurd (cc)

pub internal-pop : {A : Type 0} (p : Option ℕ) (c : ℕ) (bs : List (A × ℕ)) (x : A) (child : Option ℕ) (w : View A)
    → HasChildFor child (internal p c bs) → internal p c bs ≡ pushed_left x child w
    → (f : ℕ) × (ws : List (A × ℕ)) × (bs ≡ (x, f) ∷ ws) × (w ≡ internal p f ws)
internal-pop p c bs x child (leaf q ys) k e = absurd (cc)
internal-pop p c bs x None (internal q f ws) k e = absurd (cc)
internal-pop p c bs x (Some d) (internal q f ws) k e =
    let parent : p ≡ q = cc in
    (f, ws, cc, cc)

module _ (A : Type 0) where
  pub out-left : (h : ℕ) (xs : List A) (r : Subtree A h) (t : Subtree A (suc h)) → HasAny xs → first_out A h xs r t ≡ (t.0, r, t.2)
  out-left h [] r t a = absurd (omega arith)
  out-left h (x ∷ xs) r t a = refl

  pub out-gone : (h : ℕ) (xs : List A) (r : Subtree A h) (t : Subtree A (suc h)) → xs ≡ [] → first_out A h xs r t ≡ first_gone A h t.0 t.1 t.2
  out-gone h [] r t e = refl
  out-gone h (x ∷ xs) r t e = absurd (cc)

  pub first-id : (h : ℕ) (t : Subtree A h) → id_of A h (without_first A h t) ≡ id_of A h t
  first-id zero t = refl
  first-id (suc h) t = of (items_under A h t.1) t.0 t.1 t.2
    where
      of : (xs : List A) (i : ℕ) (c : Subtree A h) (bs : List (A × Subtree A h))
          → id_of A (suc h) (first_out A h xs (without_first A h c) (i, c, bs)) ≡ i
      of (x ∷ xs) i c bs = refl
      of [] i c [] = refl
      of [] i c (b ∷ bs) = refl

  -- no more numbers, and no other ones
  pub first-times : (h n : ℕ) (t : Subtree A h) → times_under A h n (without_first A h t) ≤ times_under A h n t
  first-times zero n t = omega arith
  first-times (suc h) n t = of (items_under A h t.1) t.0 t.1 t.2 (first-times h n t.1)
    where
      of : (xs : List A) (i : ℕ) (c : Subtree A h) (bs : List (A × Subtree A h))
          → times_under A h n (without_first A h c) ≤ times_under A h n c
          → times_under A (suc h) n (first_out A h xs (without_first A h c) (i, c, bs)) ≤ times_under A (suc h) n (i, c, bs)
      of (x ∷ xs) i c bs l = omega arith
      of [] i c [] l = omega arith
      of [] i c (b ∷ bs) l = omega arith

  -- without items, nothing is left of a subtree
  later-none : (h : ℕ) (bs : List (A × Subtree A h)) → later_items A h bs ≡ [] → bs ≡ []
  later-none h [] e = refl
  later-none h (b ∷ bs) e = absurd (cc)

  pub append-none : (xs ys : List A) → xs ++ ys ≡ [] → (xs ≡ []) × (ys ≡ [])
  append-none [] ys e = (refl, e)
  append-none (x ∷ xs) ys e = absurd (cc)

  pub gone-none : (node_at : NodeMap A) (h : ℕ) (p : Option ℕ) (t : Subtree A h) → HoldsRest A node_at h p t
      → items_under A h t ≡ [] → (n : ℕ) → 0 < times_under A h n t → node_at n ≡ None
  gone-none node_at zero p t d e n u =
      elim (zero-or (one n t.0)) [
        | inl z ↦ absurd (omega arith)
        | inr q ↦ (let is : n ≡ t.0 = grind (arith, nat_tests) in ap node_at is ∙ d ∙ gone-any t.1 (leaf p t.1) e)
      ]
  gone-none node_at (suc h) p t d e n u =
      let parts = append-none (items_under A h t.1) (later_items A h t.2) e in
      let bare = later-none h t.2 parts.1 in
      let few : total (λ b. times_under A h n b.1) t.2 ≡ 0 = ap (total (λ b. times_under A h n b.1)) bare in
      elim (zero-or (one n t.0)) [
        | inl z ↦ gone-none node_at h (Some t.0) t.1 d.1 parts.0 n (omega arith)
        | inr q ↦ (let is : n ≡ t.0 = grind (arith, nat_tests) in ap node_at is ∙ d.0 ∙ gone-any (items_under A (suc h) t) (view_at A (suc h) p t) e)
      ]
