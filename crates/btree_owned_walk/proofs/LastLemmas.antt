-- The last item is taken where it lies: what is left then, before the nodes without items are removed.
use Rattle.btree_owned_walk.proofs.Common.{◌≡◌, ◌≢◌, ◌<◌, ◌≤◌, ◌⊎◌, inl, inr, ℕ, zero, suc, ◌+◌, List, [], ◌∷◌, ◌++◌, length, map, Option, Some, None, refl, sym, ap, subst, ◌∙◌, arith, AllByRecursion, View, leaf, internal, NodeMap, size_of, HasChildFor, one, total, Subtree, id_of, items_under, later_items, times_under, view_at, one-self, HasAny, LastGone, init_of, without_last, HoldsRest, DownIn, HoldsDownTo, AtFirst, OnLast, AtLast, last_of, without_first, first_out, AreApart}
use Rattle.std.proofs.Common.{append_assoc}
use Rattle.btree_view.specs.Edits.{pushed_right}
use Rattle.btree_laws.proofs.LookUp.Descent.{cons-parts}
use Rattle.btree_owned_walk.specs.Rest.{last_id, last_end, later_out, last_out}
use Rattle.btree_owned_walk.proofs.RestLemmas.{gone-none, no-any, same-rest, same-rests, top-gone, top-there, top-used}
use Rattle.btree_owned_walk.proofs.ChainLemmas.{at-last-any, last-rest, last-times, on-last-under}

of-nil : {X : Type 0} (ys : List X) → HasAny (ys ++ []) → HasAny ys
of-nil [] a = a
of-nil (y ∷ ys) a = omega arith

plus-nil : {X : Type 0} (ys : List X) → ys ++ [] ≡ ys
plus-nil [] = refl
plus-nil (y ∷ ys) = ap (λ l. y ∷ l) (plus-nil ys)

pub init-snoc : {X : Type 0} (ys : List X) (x : X) → init_of (ys ++ x ∷ []) ≡ ys
init-snoc [] x = refl
init-snoc (y ∷ []) x = refl
init-snoc (y ∷ (z ∷ zs)) x = ap (λ l. y ∷ l) (init-snoc (z ∷ zs) x)

cons-nil : {X : Type 0} (x : X) (xs : List X) → x ∷ xs ≡ [] → ⊥
cons-nil x xs e = cc

snoc-nil : {X : Type 0} (ys : List X) (x : X) → [] ≡ ys ++ x ∷ [] → ⊥
snoc-nil [] x e = cc
snoc-nil (y ∷ ys) x e = cc

leaf-pop-right : {A : Type 0} (p : Option ℕ) (xs : List A) (x : A) (child : Option ℕ) (w : View A)
    → leaf p xs ≡ pushed_right x child w → (w ≡ leaf p (init_of xs)) × (xs ≡ init_of xs ++ x ∷ [])
leaf-pop-right p xs x child (leaf q ys) e =
    let same : xs ≡ ys ++ x ∷ [] = cc in
    let rest : init_of xs ≡ ys = ap init_of same ∙ init-snoc ys x in
    let parent : p ≡ q = cc in
    (cc, same ∙ ap (λ l. l ++ x ∷ []) (sym rest))
leaf-pop-right p xs x None (internal q c bs) e = absurd (cc)
leaf-pop-right p xs x (Some k) (internal q c bs) e = absurd (cc)

internal-pop-right : {A : Type 0} (p : Option ℕ) (c : ℕ) (bs : List (A × ℕ)) (x : A) (child : Option ℕ) (w : View A)
    → HasChildFor child (internal p c bs) → internal p c bs ≡ pushed_right x child w
    → (k : ℕ) × (ws : List (A × ℕ)) × (bs ≡ ws ++ (x, k) ∷ []) × (w ≡ internal p c ws)
internal-pop-right p c bs x child (leaf q ys) k e = absurd (cc)
internal-pop-right p c bs x None (internal q f ws) k e = absurd (cc)
internal-pop-right p c bs x (Some d) (internal q f ws) k e =
    let parent : p ≡ q = cc in
    let first : c ≡ f = cc in
    (d, ws, cc, cc)

module _ (A : Type 0) where
  -- a step at the front keeps the node at the back, if an item is left
  pub first-keeps-last : (id h : ℕ) (t : Subtree A h) → AtLast A id h t → HasAny (items_under A h (without_first A h t))
      → AtLast A id h (without_first A h t)
  first-keeps-last id zero t at some = (at.0, some)
  first-keeps-last id (suc h) t at some = of (λ c. first-keeps-last id h c) (items_under A h t.1) t.0 t.1 t.2 at.1 some
    where
      of : ((c : Subtree A h) → AtLast A id h c → HasAny (items_under A h (without_first A h c)) → AtLast A id h (without_first A h c)) → (xs : List A) (i : ℕ) (c : Subtree A h) (bs : List (A × Subtree A h)) → ((i ≡ id) ⊎ AtLast A id h (last_of A h c bs))
          → HasAny (items_under A (suc h) (first_out A h xs (without_first A h c) (i, c, bs)))
          → AtLast A id (suc h) (first_out A h xs (without_first A h c) (i, c, bs))
      of each (x ∷ xs) i c [] at some = (
        some,
        elim at [
          | inl is ↦ inl is
          | inr below ↦ inr (each c below (of-nil (items_under A h (without_first A h c)) some))
        ],
      )
      of each (x ∷ xs) i c (b ∷ bs) at some = (some, at)
      of each [] i c [] at some = (some, at)
      of each [] i c (b ∷ bs) at some = (some, at)

  -- a step at the back keeps the node at the front, if an item is left
  pub last-keeps-first : (id h : ℕ) (t : Subtree A h) → AtFirst A id h t → HasAny (items_under A h (without_last A h t))
      → AtFirst A id h (without_last A h t)
  last-keeps-first id zero t at some = (at.0, some)
  last-keeps-first id (suc h) t at some = of (λ c. last-keeps-first id h c) t.0 t.1 t.2 at.1 some
    where
      of : ((c : Subtree A h) → AtFirst A id h c → HasAny (items_under A h (without_last A h c)) → AtFirst A id h (without_last A h c)) → (i : ℕ) (c : Subtree A h) (bs : List (A × Subtree A h)) → ((i ≡ id) ⊎ AtFirst A id h c)
          → HasAny (items_under A (suc h) (last_out A h (without_last A h) i c bs))
          → AtFirst A id (suc h) (last_out A h (without_last A h) i c bs)
      of each i c [] at some = (
        some,
        elim at [
          | inl is ↦ inl is
          | inr below ↦ inr (each c below (of-nil (items_under A h (without_last A h c)) some))
        ],
      )
      of each i c (b ∷ bs) at some = (some, at)

  pub last-name : (h : ℕ) (t : Subtree A h) → id_of A h (without_last A h t) ≡ id_of A h t
  last-name zero t = refl
  last-name (suc h) t = of t.0 t.1 t.2
    where
      of : (i : ℕ) (c : Subtree A h) (bs : List (A × Subtree A h)) → id_of A (suc h) (last_out A h (without_last A h) i c bs) ≡ i
      of i c [] = refl
      of i c (b ∷ bs) = refl

  later-times : (h n : ℕ) (f : Subtree A h → Subtree A h) → ((t : Subtree A h) → times_under A h n (f t) ≤ times_under A h n t)
      → (b : A × Subtree A h) (bs : List (A × Subtree A h))
      → total (λ b. times_under A h n b.1) (later_out A h f b bs) ≤ times_under A h n b.1 + total (λ b. times_under A h n b.1) bs
  later-times h n f each b [] = of (items_under A h b.1)
    where
      of : (xs : List A) → total (λ b. times_under A h n b.1) (last_end A h b.0 xs (f b.1)) ≤ times_under A h n b.1 + 0
      of [] = omega arith
      of (x ∷ xs) = omega (arith, each b.1)
  later-times h n f each b (d ∷ ds) = omega (arith, later-times h n f each d ds)

  pub last-times-less : (h n : ℕ) (t : Subtree A h) → times_under A h n (without_last A h t) ≤ times_under A h n t
  last-times-less zero n t = omega arith
  last-times-less (suc h) n t = of (last-times-less h n) t.0 t.1 t.2
    where
      of : ((t : Subtree A h) → times_under A h n (without_last A h t) ≤ times_under A h n t) → (i : ℕ) (c : Subtree A h) (bs : List (A × Subtree A h))
          → times_under A (suc h) n (last_out A h (without_last A h) i c bs) ≤ times_under A (suc h) n (i, c, bs)
      of each i c [] = omega (arith, each c)
      of each i c (b ∷ bs) = omega (arith, later-times h n (without_last A h) each b bs)

  -- a number that goes with the last item was that of a node that is gone
  later-only : (node_at : NodeMap A) (h : ℕ) (p : Option ℕ) (n : ℕ) (f : Subtree A h → Subtree A h)
      → ((t : Subtree A h) → HoldsRest A node_at h p t → 0 < times_under A h n t → times_under A h n (f t) ≡ 0 → node_at n ≡ None)
      → (b : A × Subtree A h) (bs : List (A × Subtree A h)) → AllByRecursion (λ b. HoldsRest A node_at h p b.1) (b ∷ bs)
      → 0 < times_under A h n b.1 + total (λ b. times_under A h n b.1) bs
      → total (λ b. times_under A h n b.1) (later_out A h f b bs) ≡ 0 → node_at n ≡ None
  later-only node_at h p n f each b [] d u z = of (items_under A h b.1) refl z
    where
      of : (xs : List A) → items_under A h b.1 ≡ xs → total (λ b. times_under A h n b.1) (last_end A h b.0 xs (f b.1)) ≡ 0 → node_at n ≡ None
      of [] e z = gone-none A node_at h p b.1 d.0 e n (omega arith)
      of (x ∷ xs) e z = each b.1 d.0 (omega arith) (omega arith)
  later-only node_at h p n f each b (e ∷ ds) d u z = later-only node_at h p n f each e ds d.1 (omega arith) (omega arith)

  pub last-only : (node_at : NodeMap A) (h : ℕ) (p : Option ℕ) (t : Subtree A h) → HoldsRest A node_at h p t → (n : ℕ)
      → 0 < times_under A h n t → times_under A h n (without_last A h t) ≡ 0 → node_at n ≡ None
  last-only node_at zero p t d n u z = absurd (omega arith)
  last-only node_at (suc h) p t d n u z = of (λ i c dc. last-only node_at h (Some i) c dc n) t.0 t.1 t.2 d.1 d.2 u z
    where
      of : ((i : ℕ) (c : Subtree A h) → HoldsRest A node_at h (Some i) c → 0 < times_under A h n c → times_under A h n (without_last A h c) ≡ 0 → node_at n ≡ None) → (i : ℕ) (c : Subtree A h) (bs : List (A × Subtree A h)) → HoldsRest A node_at h (Some i) c
          → AllByRecursion (λ b. HoldsRest A node_at h (Some i) b.1) bs
          → 0 < times_under A (suc h) n (i, c, bs) → times_under A (suc h) n (last_out A h (without_last A h) i c bs) ≡ 0 → node_at n ≡ None
      of each i c [] dc ds u z = each i c dc (omega arith) (omega arith)
      of each i c (b ∷ bs) dc ds u z =
          later-only node_at h (Some i) n (without_last A h) (each i) b bs ds (omega arith) (omega arith)

  -- the last child's number
  pub last-child-id : (h : ℕ) (c : Subtree A h) (bs : List (A × Subtree A h))
      → last_id (id_of A h c) (map {B = A × ℕ} (λ (b : A × Subtree A h). (b.0, id_of A h b.1)) bs) ≡ id_of A h (last_of A h c bs)
  last-child-id h c [] = refl
  last-child-id h c (b ∷ bs) = last-child-id h b.1 bs

  -- branches whose last child is gone: the last item goes, and that child
  gone-branches : (h : ℕ) (f : Subtree A h → Subtree A h) (x : A) (k : ℕ) (b : A × Subtree A h) (bs : List (A × Subtree A h)) (ws : List (A × ℕ))
      → map {B = A × ℕ} (λ (b : A × Subtree A h). (b.0, id_of A h b.1)) (b ∷ bs) ≡ ws ++ (x, k) ∷ []
      → items_under A h (last_of A h b.1 bs) ≡ []
      → (map {B = A × ℕ} (λ (b : A × Subtree A h). (b.0, id_of A h b.1)) (later_out A h f b bs) ≡ ws)
      × (later_items A h (b ∷ bs) ≡ later_items A h (later_out A h f b bs) ++ x ∷ [])
  gone-branches h f x k b [] [] e none =
      let parts = cons-parts {X = A × ℕ} {x = (b.0, id_of A h b.1)} {y = (x, k)} {xs = []} {ys = []} e in
      let item : b.0 ≡ x = ap (λ q. q.0) parts.0 in
      let end : last_end A h b.0 (items_under A h b.1) (f b.1) ≡ [] = ap (λ l. last_end A h b.0 l (f b.1)) none in (
        ap (map {B = A × ℕ} (λ (b : A × Subtree A h). (b.0, id_of A h b.1))) end,
        ap (λ l. b.0 ∷ (l ++ [])) none ∙ ap (λ y. y ∷ []) item ∙ ap (λ l. later_items A h l ++ x ∷ []) (sym end),
      )
  gone-branches h f x k b [] (w ∷ ws) e none =
      absurd (snoc-nil ws (x, k) (cons-parts {X = A × ℕ} {x = (b.0, id_of A h b.1)} {y = w} {xs = []} {ys = ws ++ (x, k) ∷ []} e).1)
  gone-branches h f x k b (d ∷ ds) [] e none =
      absurd (cons-nil {X = A × ℕ} _ _ (cons-parts {X = A × ℕ} {x = (b.0, id_of A h b.1)} {y = (x, k)} {xs = map {B = A × ℕ} (λ (b : A × Subtree A h). (b.0, id_of A h b.1)) (d ∷ ds)} {ys = []} e).1)
  gone-branches h f x k b (d ∷ ds) (w ∷ ws) e none =
      let parts = cons-parts {X = A × ℕ} {x = (b.0, id_of A h b.1)} {y = w} {xs = map {B = A × ℕ} (λ (b : A × Subtree A h). (b.0, id_of A h b.1)) (d ∷ ds)} {ys = ws ++ (x, k) ∷ []} e in
      let r = gone-branches h f x k d ds ws parts.1 none in (
        ap (λ y. y ∷ map {B = A × ℕ} (λ (b : A × Subtree A h). (b.0, id_of A h b.1)) (later_out A h f d ds)) parts.0 ∙ ap (λ l. w ∷ l) r.0,
        ap (λ l. b.0 ∷ (items_under A h b.1 ++ l)) r.1 ∙ ap (λ l. b.0 ∷ l) (sym (append_assoc (items_under A h b.1) (later_items A h (later_out A h f d ds)) (x ∷ []))),
      )

  gone-rests : (new : NodeMap A) (h : ℕ) (p : Option ℕ) (f : Subtree A h → Subtree A h) (b : A × Subtree A h) (bs : List (A × Subtree A h))
      → items_under A h (last_of A h b.1 bs) ≡ [] → AllByRecursion (λ b. HoldsRest A new h p b.1) (b ∷ bs)
      → AllByRecursion (λ b. HoldsRest A new h p b.1) (later_out A h f b bs)
  gone-rests new h p f b [] none d = subst (AllByRecursion (λ b. HoldsRest A new h p b.1)) (sym (ap (λ l. last_end A h b.0 l (f b.1)) none)) tt
  gone-rests new h p f b (e ∷ ds) none d = (d.0, gone-rests new h p f e ds none d.1)

  -- the same children, by their numbers, if an item is left under the last one
  later-ids : (h : ℕ) (f : Subtree A h → Subtree A h) → ((t : Subtree A h) → id_of A h (f t) ≡ id_of A h t)
      → (b : A × Subtree A h) (bs : List (A × Subtree A h)) → HasAny (items_under A h (last_of A h b.1 bs))
      → map {B = A × ℕ} (λ (b : A × Subtree A h). (b.0, id_of A h b.1)) (later_out A h f b bs)
      ≡ map {B = A × ℕ} (λ (b : A × Subtree A h). (b.0, id_of A h b.1)) (b ∷ bs)
  later-ids h f same b [] some = of (items_under A h b.1) some
    where
      of : (xs : List A) → HasAny xs → map {B = A × ℕ} (λ (b : A × Subtree A h). (b.0, id_of A h b.1)) (last_end A h b.0 xs (f b.1))
          ≡ (b.0, id_of A h b.1) ∷ []
      of [] a = absurd (omega arith)
      of (x ∷ xs) a = ap (λ n. (b.0, n) ∷ []) (same b.1)
  later-ids h f same b (d ∷ ds) some = ap (λ l. (b.0, id_of A h b.1) ∷ l) (later-ids h f same d ds some)

  -- the items without the last one
  later-list : (h : ℕ) (f : Subtree A h → Subtree A h) (x : A) (b : A × Subtree A h) (bs : List (A × Subtree A h))
      → HasAny (items_under A h (last_of A h b.1 bs))
      → items_under A h (last_of A h b.1 bs) ≡ items_under A h (f (last_of A h b.1 bs)) ++ x ∷ []
      → later_items A h (b ∷ bs) ≡ later_items A h (later_out A h f b bs) ++ x ∷ []
  later-list h f x b [] some e = of (items_under A h b.1) some e
    where
      of : (xs : List A) → HasAny xs → xs ≡ items_under A h (f b.1) ++ x ∷ []
          → b.0 ∷ (xs ++ []) ≡ later_items A h (last_end A h b.0 xs (f b.1)) ++ x ∷ []
      of [] a e = absurd (omega arith)
      of (y ∷ ys) a e =
          ap (λ l. b.0 ∷ (l ++ [])) e ∙ ap (λ l. b.0 ∷ l) (append_assoc (items_under A h (f b.1)) (x ∷ []) [])
          ∙ ap (λ l. b.0 ∷ (l ++ x ∷ [])) (sym (plus-nil (items_under A h (f b.1))))
  later-list h f x b (d ∷ ds) some e =
      ap (λ l. b.0 ∷ (items_under A h b.1 ++ l)) (later-list h f x d ds some e)
      ∙ ap (λ l. b.0 ∷ l) (sym (append_assoc (items_under A h b.1) (later_items A h (later_out A h f d ds)) (x ∷ [])))

  -- all but the last of some branches
  abbrev pub AllButLast : (h : ℕ) → (A × Subtree A h → Type 0) → A × Subtree A h → List (A × Subtree A h) → Type 0
  AllButLast h P b [] = Unit {0}
  AllButLast h P b (d ∷ ds) = P b × AllButLast h P d ds

  -- the way down to the node under the last child
  later-down : (node_at : NodeMap A) (id h : ℕ) (p : Option ℕ) (f : Subtree A h → Subtree A h) (b : A × Subtree A h) (bs : List (A × Subtree A h))
      → HasAny (items_under A h (last_of A h b.1 bs)) → HoldsDownTo A node_at id h p (f (last_of A h b.1 bs))
      → AllButLast h (λ b. HoldsRest A node_at h p b.1) b bs
      → DownIn A node_at h p (HoldsDownTo A node_at id h p) (later_out A h f b bs)
  later-down node_at id h p f b [] some d a = of (items_under A h b.1) some
    where
      of : (xs : List A) → HasAny xs → DownIn A node_at h p (HoldsDownTo A node_at id h p) (last_end A h b.0 xs (f b.1))
      of [] a = absurd (omega arith)
      of (y ∷ ys) a = inl (d, tt)
  later-down node_at id h p f b (e ∷ ds) some d a = inr (a.0, later-down node_at id h p f e ds some d a.1)

  later-last : (h : ℕ) (f : Subtree A h → Subtree A h) (c : Subtree A h) (b : A × Subtree A h) (bs : List (A × Subtree A h))
      → HasAny (items_under A h (last_of A h b.1 bs)) → last_of A h c (later_out A h f b bs) ≡ f (last_of A h b.1 bs)
  later-last h f c b [] some = of (items_under A h b.1) some
    where
      of : (xs : List A) → HasAny xs → last_of A h c (last_end A h b.0 xs (f b.1)) ≡ f b.1
      of [] a = absurd (omega arith)
      of (y ∷ ys) a = refl
  later-last h f c b (d ∷ ds) some = later-last h f b.1 d ds some

  pub at-last-on : (id h : ℕ) (t : Subtree A h) → AtLast A id h t → OnLast A id h t
  at-last-on id zero t at = at.0
  at-last-on id (suc h) t at = elim at.1 [ inl is ↦ inl is | inr below ↦ inr (at-last-on id h (last_of A h t.1 t.2) below) ]

  -- the node that had the last item is on the way to the last item that is left
  pub stays-last : (h : ℕ) (t : Subtree A h) (id : ℕ) → AtLast A id h t → OnLast A id h (without_last A h t)
  stays-last zero t id at = at.0
  stays-last (suc h) t id at =
      elim at.1 [
        | inl is ↦ here t.0 t.1 t.2 is
        | inr below ↦ under t.0 t.1 t.2 (at-last-any A id h (last_of A h t.1 t.2) below) (stays-last h (last_of A h t.1 t.2) id below)
      ]
    where
      here : (i : ℕ) (c : Subtree A h) (bs : List (A × Subtree A h)) → i ≡ id → OnLast A id (suc h) (last_out A h (without_last A h) i c bs)
      here i c [] is = inl is
      here i c (b ∷ bs) is = inl is

      under : (i : ℕ) (c : Subtree A h) (bs : List (A × Subtree A h)) → HasAny (items_under A h (last_of A h c bs))
          → OnLast A id h (without_last A h (last_of A h c bs)) → OnLast A id (suc h) (last_out A h (without_last A h) i c bs)
      under i c [] some on = inr on
      under i c (b ∷ bs) some on = inr (subst (OnLast A id h) (sym (later-last h (without_last A h) c b bs some)) on)

  module _ (node_at new : NodeMap A) (id : ℕ) (v w : View A) (x : A) (child : Option ℕ) (e : node_at id ≡ Some v)
      (bare : LastGone node_at v) (kind : HasChildFor child v) (popped : v ≡ pushed_right x child w)
      (here : new id ≡ Some w) (others : (n : ℕ) → n ≢ id → new n ≡ node_at n) where
    all-but : (h i : ℕ) (b : A × Subtree A h) (bs : List (A × Subtree A h)) → AllByRecursion (λ b. HoldsRest A node_at h (Some i) b.1) (b ∷ bs)
        → ((n : ℕ) → times_under A h n b.1 + total (λ b. times_under A h n b.1) bs ≤ 1) → 0 < times_under A h id (last_of A h b.1 bs)
        → AllButLast h (λ b. HoldsRest A new h (Some i) b.1) b bs
    all-but h i b [] d apart u = tt
    all-but h i b (c ∷ cs) d apart u = (
      same-rest A node_at new h (Some i) b.1 d.0 (λ n k. others n (λ same. (let q = apart id in let l = last-times A h c.1 cs id in
          let k' : 0 < times_under A h id b.1 = subst (λ m. 0 < times_under A h m b.1) same k in omega arith))),
      all-but h i c cs d.1 (λ n. (let q = apart n in omega arith)) u,
    )

    at-gone-last : (h : ℕ) (p : Option ℕ) (i : ℕ) (c : Subtree A h) (bs : List (A × Subtree A h)) → i ≡ id
        → view_at A (suc h) p (i, c, bs) ≡ v → items_under A h (last_of A h c bs) ≡ []
        → HoldsRest A node_at h (Some i) c → AllByRecursion (λ b. HoldsRest A node_at h (Some i) b.1) bs
        → ((n : ℕ) → times_under A (suc h) n (i, c, bs) ≤ 1)
        → HoldsDownTo A new id (suc h) p (last_out A h (without_last A h) i c bs)
        × (items_under A (suc h) (i, c, bs) ≡ items_under A (suc h) (last_out A h (without_last A h) i c bs) ++ x ∷ [])
    at-gone-last h p i c [] is view none dc d apart =
        let r = internal-pop-right p (id_of A h c) [] x child w (subst (HasChildFor child) (sym view) kind) (view ∙ popped) in
        absurd (snoc-nil r.1 (x, r.0) r.2)
    at-gone-last h p i c (b ∷ bs) is view none dc d apart =
        let r = internal-pop-right p (id_of A h c) (map (λ (b : A × Subtree A h). (b.0, id_of A h b.1)) (b ∷ bs)) x child w (subst (HasChildFor child) (sym view) kind) (view ∙ popped) in
        let k = gone-branches h (without_last A h) x r.0 b bs r.1 r.2 none in
        let there : w ≡ view_at A (suc h) p (i, c, later_out A h (without_last A h) b bs) = r.3 ∙ ap (λ l. internal p (id_of A h c) l) (sym k.0) in
        let apart-here : (n : ℕ) → 0 < times_under A h n c + total (λ b. times_under A h n b.1) (b ∷ bs) → n ≢ id =
        λ n u same. (let q = apart n in let one-is : one n i ≡ 1 = ap (one n) (is ∙ sym same) ∙ one-self n in omega arith) in (
          (
            ap new is ∙ here ∙ ap Some there,
            inl (
              is,
              same-rest A node_at new h (Some i) c dc (λ n u. others n (apart-here n (omega arith))),
              gone-rests new h (Some i) (without_last A h) b bs none (same-rests A node_at new h (Some i) (b ∷ bs) d (λ n u. others n (apart-here n (omega arith)))),
            ),
          ),
          ap (λ l. items_under A h c ++ l) k.1 ∙ sym (append_assoc (items_under A h c) (later_items A h (later_out A h (without_last A h) b bs)) (x ∷ [])),
        )

    below-last : (h : ℕ) (p : Option ℕ) (i : ℕ) (c : Subtree A h) (bs : List (A × Subtree A h))
        → new i ≡ Some (view_at A (suc h) p (i, c, bs)) → HasAny (items_under A h (last_of A h c bs))
        → HoldsRest A node_at h (Some i) c → AllByRecursion (λ b. HoldsRest A node_at h (Some i) b.1) bs
        → ((n : ℕ) → times_under A (suc h) n (i, c, bs) ≤ 1) → 0 < times_under A h id (last_of A h c bs)
        → HoldsDownTo A new id h (Some i) (without_last A h (last_of A h c bs))
        → items_under A h (last_of A h c bs) ≡ items_under A h (without_last A h (last_of A h c bs)) ++ x ∷ []
        → HoldsDownTo A new id (suc h) p (last_out A h (without_last A h) i c bs)
        × (items_under A (suc h) (i, c, bs) ≡ items_under A (suc h) (last_out A h (without_last A h) i c bs) ++ x ∷ [])
    below-last h p i c [] own some dc d apart u down list = (
      (own ∙ ap (λ n. Some (internal p n [])) (sym (last-name h c)), inr (inl (down, tt))),
      ap (λ l. l ++ []) list ∙ plus-nil (items_under A h (without_last A h c) ++ x ∷ []) ∙ ap (λ l. l ++ x ∷ []) (sym (plus-nil (items_under A h (without_last A h c)))),
    )
    below-last h p i c (b ∷ bs) own some dc d apart u down list =
        let few = last-times A h b.1 bs id in
        let first = same-rest A node_at new h (Some i) c dc (λ n k. others n (λ same. (let q = apart id in
        let k' : 0 < times_under A h id c = subst (λ m. 0 < times_under A h m c) same k in omega arith))) in (
          (
            own ∙ ap (λ l. Some (internal p (id_of A h c) l)) (sym (later-ids h (without_last A h) (last-name h) b bs some)),
            inr (inr (first, later-down new id h (Some i) (without_last A h) b bs some down (all-but h i b bs d (λ n. (let q = apart n in omega arith)) u))),
          ),
          ap (λ l. items_under A h c ++ l) (later-list h (without_last A h) x b bs some list)
              ∙ sym (append_assoc (items_under A h c) (later_items A h (later_out A h (without_last A h) b bs)) (x ∷ [])),
        )

    pub takes-last : (h : ℕ) (p : Option ℕ) (t : Subtree A h) → HoldsRest A node_at h p t → AreApart A h t → AtLast A id h t
        → HoldsDownTo A new id h p (without_last A h t) × (items_under A h t ≡ items_under A h (without_last A h t) ++ x ∷ [])
    takes-last zero p t d apart at =
        let view = (top-used A node_at zero p t d v (ap node_at at.0 ∙ e)).1 in
        let r = leaf-pop-right p t.1 x child w (view ∙ popped) in
        ((at.0, ap new at.0 ∙ here ∙ ap Some r.0), r.1)
    takes-last (suc h) p t d apart at =
        elim at.1 [
          | inl is ↦
              (let view = (top-used A node_at (suc h) p t d v (ap node_at is ∙ e)).1 in
              let gone : node_at (last_id (id_of A h t.1) (map {B = A × ℕ} (λ (b : A × Subtree A h). (b.0, id_of A h b.1)) t.2)) ≡ None = subst (LastGone node_at) (sym view) bare in
              let none = top-gone A node_at h (Some t.0) (last_of A h t.1 t.2) (last-rest A node_at h (Some t.0) t.1 t.2 d.1 d.2) (ap node_at (sym (last-child-id h t.1 t.2)) ∙ gone) in
              at-gone-last h p t.0 t.1 t.2 is view none d.1 d.2 apart)
          | inr below ↦
              (let some = at-last-any A id h (last_of A h t.1 t.2) below in
              let under = on-last-under A h (last_of A h t.1 t.2) id (at-last-on id h (last_of A h t.1 t.2) below) in
              let r = takes-last h (Some t.0) (last_of A h t.1 t.2) (last-rest A node_at h (Some t.0) t.1 t.2 d.1 d.2)
              (λ n. (let q = apart n in let l = last-times A h t.1 t.2 n in omega arith)) below in
              let few = last-times A h t.1 t.2 id in
              let own : t.0 ≢ id = λ same. (let q = apart id in let one-is : one id t.0 ≡ 1 = ap (one id) same ∙ one-self id in omega arith) in
              below-last h p t.0 t.1 t.2 (others t.0 own ∙ top-there A node_at (suc h) p t d at.0) some d.1 d.2 apart under r.0 r.1)
        ]

  pub last-sized : (node_at : NodeMap A) (h : ℕ) (p : Option ℕ) (t : Subtree A h) → HoldsRest A node_at h p t → (id : ℕ) → AtLast A id h t
      → (v : View A) → node_at id ≡ Some v → LastGone node_at v → 0 < size_of v
  last-sized node_at zero p t d id at v e bare =
      let is = (top-used A node_at zero p t d v (ap node_at at.0 ∙ e)).1 in
      subst (λ w. 0 < size_of w) is at.1
  last-sized node_at (suc h) p t d id at v e bare =
      elim at.1 [
        | inl here ↦
            (let is = (top-used A node_at (suc h) p t d v (ap node_at here ∙ e)).1 in
            let gone : node_at (last_id (id_of A h t.1) (map {B = A × ℕ} (λ (b : A × Subtree A h). (b.0, id_of A h b.1)) t.2)) ≡ None = subst (LastGone node_at) (sym is) bare in
            let none = top-gone A node_at h (Some t.0) (last_of A h t.1 t.2) (last-rest A node_at h (Some t.0) t.1 t.2 d.1 d.2) (ap node_at (sym (last-child-id h t.1 t.2)) ∙ gone) in
            subst (λ w. 0 < size_of w) is (of t.1 t.2 none at.0))
        | inr below ↦ last-sized node_at h (Some t.0) (last_of A h t.1 t.2) (last-rest A node_at h (Some t.0) t.1 t.2 d.1 d.2) id below v e bare
      ]
    where
      of : (c : Subtree A h) (bs : List (A × Subtree A h)) → items_under A h (last_of A h c bs) ≡ [] → HasAny (items_under A h c ++ later_items A h bs)
          → 0 < length (map {B = A} (λ b. b.0) (map {B = A × ℕ} (λ (b : A × Subtree A h). (b.0, id_of A h b.1)) bs))
      of c [] e a = absurd (no-any (items_under A h c) e (of-nil (items_under A h c) a))
      of c (b ∷ bs) e a = omega arith
