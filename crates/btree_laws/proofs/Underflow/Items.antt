-- Two adjacent siblings between which an item moves, or that are merged: their items, children, numbers and counts.
use Rattle.btree_laws.proofs.Common.{◌≡◌, ◌<◌, ◌++◌, ◌∷◌, [], ◌∙◌, ◌+◌, ℕ, zero, suc, List, length, map, Option, None, refl, sym, ap, subst, arith, length-append, is_internal, View, children_of, internal, items_of, leaf, parent_of, as_list, one, Rotates, first_of, IsFilled, IsFilledBelow, Subtree, count_at, id_of, items_under, times_under, view_at}
use Rattle.btree_laws.proofs.Splits.KeptPositions.{join-items}
use Rattle.btree_laws.proofs.LookUp.Descent.{cons-parts, snoc}
use Rattle.btree_laws.proofs.Paths.Frames.{AllByRecursion-append, AllByRecursion-left, AllByRecursion-right, total-append}
use Rattle.btree_laws.proofs.Splits.TwoParts.{join}

branches-same : {A : Type 0} (bs cs : List (A × ℕ)) → map {B = A} (λ b. b.0) bs ≡ map {B = A} (λ b. b.0) cs
    → map {B = ℕ} (λ b. b.1) bs ≡ map {B = ℕ} (λ b. b.1) cs → bs ≡ cs
branches-same [] [] e f = refl
branches-same [] (c ∷ cs) e f = absurd (cc)
branches-same (b ∷ bs) [] e f = absurd (cc)
branches-same {A} (b ∷ bs) (c ∷ cs) e f =
    let e1 = cons-parts {X = A} e in
    let f1 = cons-parts {X = ℕ} f in
    let r = branches-same bs cs e1.1 f1.1 in
    ap (λ (z : A). (z, b.1) ∷ bs) e1.0 ∙ (ap (λ (z : ℕ). (c.0, z) ∷ bs) f1.0 ∙ ap (λ z. c ∷ z) r)

-- a node is its kind, its parent, its items and its children
pub view-same : {A : Type 0} (v w : View A) → is_internal v ≡ is_internal w → parent_of v ≡ parent_of w
    → items_of v ≡ items_of w → children_of v ≡ children_of w → v ≡ w
view-same (leaf p xs) (leaf q ys) k e f g = ap (λ z. leaf z xs) e ∙ ap (λ z. leaf q z) f
view-same (leaf p xs) (internal q u ys) k e f g = absurd (cc)
view-same (internal p u xs) (leaf q ys) k e f g = absurd (cc)
view-same (internal p u xs) (internal q v ys) k e f g =
    let c = cons-parts {X = ℕ} g in
    ap (λ z. internal z u xs) e ∙ (ap (λ z. internal q z xs) c.0 ∙ ap (λ z. internal q v z) (branches-same xs ys f c.1))

module _ (A : Type 0) where
  abbrev pub items_at : (h : ℕ) → Subtree A h → List A
  items_at h t = items_of (view_at A h None t)

  abbrev pub children_at : (h : ℕ) → Subtree A h → List ℕ
  children_at h t = children_of (view_at A h None t)

  -- a branch with the number of its child
  abbrev pub numbered : (h : ℕ) → A × Subtree A h → A × ℕ
  numbered h b = (b.0, id_of A h b.1)

  pub items_at-is : (h : ℕ) (p : Option ℕ) (t : Subtree A h) → items_of (view_at A h p t) ≡ items_at h t
  items_at-is zero p t = refl
  items_at-is (suc h) p t = refl

  pub children_at-is : (h : ℕ) (p : Option ℕ) (t : Subtree A h) → children_of (view_at A h p t) ≡ children_at h t
  children_at-is zero p t = refl
  children_at-is (suc h) p t = refl

  pub kind-is : (h : ℕ) (p q : Option ℕ) (t s : Subtree A h) → is_internal (view_at A h p t) ≡ is_internal (view_at A h q s)
  kind-is zero p q t s = refl
  kind-is (suc h) p q t s = refl

  pub keys-append : (h : ℕ) (l r : List (A × Subtree A h)) → map {B = A} (λ b. b.0) (map (numbered h) (l ++ r))
      ≡ map {B = A} (λ b. b.0) (map (numbered h) l) ++ map {B = A} (λ b. b.0) (map (numbered h) r)
  keys-append h [] r = refl
  keys-append h (b ∷ l) r = ap (λ z. b.0 ∷ z) (keys-append h l r)

  pub ids-append : (h : ℕ) (l r : List (A × Subtree A h)) → map {B = ℕ} (λ b. b.1) (map (numbered h) (l ++ r))
      ≡ map {B = ℕ} (λ b. b.1) (map (numbered h) l) ++ map {B = ℕ} (λ b. b.1) (map (numbered h) r)
  ids-append h [] r = refl
  ids-append h (b ∷ l) r = ap (λ z. id_of A h b.1 ∷ z) (ids-append h l r)

  -- a sibling with an item can lend it
  pub rotates-left : (h : ℕ) (a : Subtree A h) (x : A) (b : Subtree A h) → 0 < count_at A h b
      → (new_a : Subtree A h) × (y : A) × (new_b : Subtree A h) × Rotates A h a x b new_a y new_b
  rotates-left zero a x (j, []) some = absurd (omega arith)
  rotates-left zero a x (j, y ∷ ys) some = ((a.0, a.1 ++ x ∷ []), y, (j, ys), (refl, refl))
  rotates-left (suc h) a x (j, u, []) some = absurd (omega arith)
  rotates-left (suc h) a x (j, u, b ∷ bs) some =
      ((a.0, a.1, a.2 ++ (x, u) ∷ []), b.0, (j, b.1, bs), (refl, refl))

  pub rotates-right : (h : ℕ) (a : Subtree A h) (x : A) (b : Subtree A h) → 0 < count_at A h a
      → (new_a : Subtree A h) × (y : A) × (new_b : Subtree A h) × Rotates A h new_a y new_b a x b
  rotates-right zero (i, []) x b some = absurd (omega arith)
  rotates-right zero (i, z ∷ zs) x b some =
      let s = snoc z zs in
      ((i, s.0), s.1, (b.0, x ∷ b.1), (ap (λ (l : List A). (i, l)) s.2, refl))
  rotates-right (suc h) (i, u, []) x b some = absurd (omega arith)
  rotates-right (suc h) (i, u, z ∷ zs) x b some =
      let s = snoc z zs in (
        (i, u, s.0),
        s.1.0,
        (b.0, s.1.1, (x, b.1) ∷ b.2),
        (ap (λ (l : List (A × Subtree A h)). (i, u, l)) s.2, refl),
      )

  module _ (h : ℕ) (a : Subtree A h) (x : A) (b new_a : Subtree A h) (y : A) (new_b : Subtree A h)
      (t : Rotates A h a x b new_a y new_b) where
    pub record Turned : Type 0 where
      pub left_id : id_of A h new_a ≡ id_of A h a
      pub right_id : id_of A h b ≡ id_of A h new_b
      pub left_count : count_at A h new_a ≡ suc (count_at A h a)
      pub right_count : count_at A h b ≡ suc (count_at A h new_b)
      pub left_items : items_at h new_a ≡ items_at h a ++ x ∷ []
      pub right_items : items_at h b ≡ y ∷ items_at h new_b
      pub left_children : children_at h new_a ≡ children_at h a ++ as_list (first_of A h b)
      pub right_children : children_at h b ≡ as_list (first_of A h b) ++ children_at h new_b

  pub turned : (h : ℕ) (a : Subtree A h) (x : A) (b new_a : Subtree A h) (y : A) (new_b : Subtree A h)
      (t : Rotates A h a x b new_a y new_b) → Turned h a x b new_a y new_b t
  turned zero a x b new_a y new_b t =
      record {
        left_id = ap (λ (z : Subtree A 0). z.0) t.0;
        right_id = ap (λ (z : Subtree A 0). z.0) t.1;
        left_count = ap (λ (z : Subtree A 0). length z.1) t.0
            ∙ (let q = length-append a.1 (x ∷ []) in let r : length (a.1 ++ x ∷ []) ≡ suc (length a.1) =
            omega arith in r);
        right_count = ap (λ (z : Subtree A 0). length z.1) t.1;
        left_items = ap (λ (z : Subtree A 0). z.1) t.0;
        right_items = ap (λ (z : Subtree A 0). z.1) t.1;
        left_children = refl;
        right_children = refl;
      }
  turned (suc h) a x b new_a y new_b t =
      record {
        left_id = ap (λ (z : Subtree A (suc h)). z.0) t.0;
        right_id = ap (λ (z : Subtree A (suc h)). z.0) t.1;
        left_count = ap (λ (z : Subtree A (suc h)). length z.2) t.0
            ∙ (let q = length-append a.2 ((x, b.1) ∷ []) in let r : length (a.2 ++ (x, b.1) ∷ []) ≡ suc (length a.2) =
            omega arith in r);
        right_count = ap (λ (z : Subtree A (suc h)). length z.2) t.1;
        left_items = ap (λ (z : Subtree A (suc h)). items_at (suc h) z) t.0 ∙ keys-append h a.2 ((x, b.1) ∷ []);
        right_items = ap (λ (z : Subtree A (suc h)). items_at (suc h) z) t.1;
        left_children = ap (λ (z : Subtree A (suc h)). children_at (suc h) z) t.0
            ∙ ap (λ l. id_of A h a.1 ∷ l) (ids-append h a.2 ((x, b.1) ∷ []));
        right_children = ap (λ (z : Subtree A (suc h)). children_at (suc h) z) t.1;
      }

  -- the two merged into one
  pub join-id : (h : ℕ) (a : Subtree A h) (x : A) (b : Subtree A h) → id_of A h (join A h a x b) ≡ id_of A h a
  join-id zero a x b = refl
  join-id (suc h) a x b = refl

  pub join-views : (h : ℕ) (a : Subtree A h) (x : A) (b : Subtree A h)
      → (items_at h (join A h a x b) ≡ items_at h a ++ x ∷ items_at h b)
      × (children_at h (join A h a x b) ≡ children_at h a ++ children_at h b)
  join-views zero a x b = (refl, refl)
  join-views (suc h) a x b = (
    keys-append h a.2 ((x, b.1) ∷ b.2),
    ap (λ l. id_of A h a.1 ∷ l) (ids-append h a.2 ((x, b.1) ∷ b.2)),
  )

  pub join-times : (h n : ℕ) (a : Subtree A h) (x : A) (b : Subtree A h)
      → times_under A h n (join A h a x b) + one n (id_of A h b) ≡ times_under A h n a + times_under A h n b
  join-times zero n a x b = omega arith
  join-times (suc h) n a x b = omega (arith, total-append (λ b. times_under A h n b.1) a.2 ((x, b.1) ∷ b.2))

  abbrev FilledBranch : (h : ℕ) → A × Subtree A h → Type 0
  FilledBranch h b = IsFilled 3 h (count_at A h b.1) × IsFilledBelow A h b.1

  pub join-below : (h : ℕ) (a : Subtree A h) (x : A) (b : Subtree A h) → IsFilledBelow A h a → IsFilledBelow A h b
      → IsFilledBelow A h (join A h a x b)
  join-below zero a x b fa fb = tt
  join-below (suc h) a x b fa fb =
      (fa.0, fa.1, AllByRecursion-append (FilledBranch h) a.2 ((x, b.1) ∷ b.2) fa.2 ((fb.0, fb.1), fb.2))

  pub cut-below : (h : ℕ) (a : Subtree A h) (x : A) (b : Subtree A h) → IsFilledBelow A h (join A h a x b)
      → IsFilledBelow A h a × IsFilledBelow A h b
  cut-below zero a x b f = (tt, tt)
  cut-below (suc h) a x b f =
      let r = AllByRecursion-right (FilledBranch h) a.2 ((x, b.1) ∷ b.2) f.2 in
      ((f.0, f.1, AllByRecursion-left (FilledBranch h) a.2 ((x, b.1) ∷ b.2) f.2), (r.0.0, r.0.1, r.1))

  -- an item that moves changes nothing of the two together
  module _ (h : ℕ) (a : Subtree A h) (x : A) (b new_a : Subtree A h) (y : A) (new_b : Subtree A h)
      (same : join A h a x b ≡ join A h new_a y new_b) where
    pub same-items : items_under A h a ++ x ∷ items_under A h b ≡ items_under A h new_a ++ y ∷ items_under A h new_b
    same-items = sym (join-items A h a x b) ∙ (ap (items_under A h) same ∙ join-items A h new_a y new_b)

    pub same-below : IsFilledBelow A h a → IsFilledBelow A h b → IsFilledBelow A h new_a × IsFilledBelow A h new_b
    same-below fa fb =
        cut-below h new_a y new_b (subst (λ z. IsFilledBelow A h z) same (join-below h a x b fa fb))

    pub same-times : id_of A h new_b ≡ id_of A h b → (n : ℕ)
        → times_under A h n a + times_under A h n b ≡ times_under A h n new_a + times_under A h n new_b
    same-times eb n =
        let e1 = join-times h n a x b in
        let e2 = join-times h n new_a y new_b in
        let e3 : times_under A h n (join A h a x b) ≡ times_under A h n (join A h new_a y new_b) =
        ap (times_under A h n) same in
        let e4 : one n (id_of A h new_b) ≡ one n (id_of A h b) = ap (one n) eb in
        omega arith
