-- A frame filled with a child, and trees in stores that agree at the tree's numbers.
use Rattle.btree_laws.proofs.Common.{◌≡◌, ◌≢◌, ◌<◌, ◌++◌, ◌∷◌, [], ◌∙◌, ◌+◌, ℕ, zero, suc, List, length, Option, Some, refl, sym, ap, arith, append_assoc, length-append, nat_tests, flat_map-append, map-append, AllByRecursion, NodeMap, internal, one, total, Holds, IsFilled, IsFilledBelow, Subtree, count_at, id_of, items_under, times_under, view_at, Path, Frame, HoldsAbove, SiblingsFilled, SiblingsHold, after_in, at_branch, at_first, before_in, fill, frame_count, frame_id, frame_view, times_above, times_in_siblings, times_in, top, under}

-- what holds of all elements of two lists holds of those of both together
pub AllByRecursion-append : {X : Type 0} (P : X → Type 0) (xs ys : List X) → AllByRecursion P xs → AllByRecursion P ys
    → AllByRecursion P (xs ++ ys)
AllByRecursion-append P [] ys a b = b
AllByRecursion-append P (x ∷ xs) ys a b = (a.0, AllByRecursion-append P xs ys a.1 b)

-- what holds of all elements of a list holds of those of its front
pub AllByRecursion-left : {X : Type 0} (P : X → Type 0) (xs ys : List X) → AllByRecursion P (xs ++ ys)
    → AllByRecursion P xs
AllByRecursion-left P [] ys a = tt
AllByRecursion-left P (x ∷ xs) ys a = (a.0, AllByRecursion-left P xs ys a.1)

-- what holds of all elements of a list holds of those of its back
pub AllByRecursion-right : {X : Type 0} (P : X → Type 0) (xs ys : List X) → AllByRecursion P (xs ++ ys)
    → AllByRecursion P ys
AllByRecursion-right P [] ys a = a
AllByRecursion-right P (x ∷ xs) ys a = AllByRecursion-right P xs ys a.1

-- ones, summed over a list
pub total-ones : {X : Type 0} (xs : List X) → total (λ (x : X). 1) xs ≡ length xs
total-ones [] = refl
total-ones (x ∷ xs) = omega (arith, total-ones xs)

-- the sum over two lists is the sum of their sums
pub total-append : {X : Type 0} (f : X → ℕ) (xs ys : List X) → total f (xs ++ ys) ≡ total f xs + total f ys
total-append f [] ys = omega arith
total-append f (x ∷ xs) ys = omega (arith, total-append f xs ys)

-- a number equals itself, so it counts one
pub one-self : (n : ℕ) → one n n ≡ 1
one-self n = grind (arith, nat_tests)

-- two different numbers count none
pub one-other : (n i : ℕ) → n ≢ i → one n i ≡ 0
one-other n i h = grind (arith, nat_tests)

-- numbers that count none are different
pub one-zero : (n i : ℕ) → one n i ≡ 0 → n ≢ i
one-zero n i e s = grind (arith, nat_tests)

module _ (A : Type 0) where
  pub times_in-is : (h n : ℕ) (f : Frame A h) → times_in n f ≡ one n (frame_id f) + times_in_siblings n f
  times_in-is h n (at_first i back) = refl
  times_in-is h n (at_branch i first front x back) = refl

  -- the root of a subtree is stored as the subtree shows it
  pub top-view : (node_at : NodeMap A) (h : ℕ) (p : Option ℕ) (t : Subtree A h) → Holds A node_at h p t
      → node_at (id_of A h t) ≡ Some (view_at A h p t)
  top-view node_at zero p t d = d
  top-view node_at (suc h) p t d = d.0

  pub fill-items : (h : ℕ) (f : Frame A h) (t : Subtree A h)
      → items_under A (suc h) (fill f t) ≡ before_in f ++ (items_under A h t ++ after_in f)
  fill-items h (at_first n back) t = refl
  fill-items h (at_branch n first front x back) t =
      simp (flat_map-append, append_assoc)

  pub fill-times : (h : ℕ) (n : ℕ) (f : Frame A h) (t : Subtree A h)
      → times_under A (suc h) n (fill f t) ≡ times_in n f + times_under A h n t
  fill-times h n (at_first i back) t = omega arith
  fill-times h n (at_branch i first front x back) t =
      omega (arith, total-append (λ b. times_under A h n b.1) front ((x, t) ∷ back))

  pub fill-id : (h : ℕ) (f : Frame A h) (t : Subtree A h) → id_of A (suc h) (fill f t) ≡ frame_id f
  fill-id h (at_first i back) t = refl
  fill-id h (at_branch i first front x back) t = refl

  -- a frame has as many items whichever child fills it
  pub fill-count : (h : ℕ) (f : Frame A h) (t : Subtree A h) → count_at A (suc h) (fill f t) ≡ frame_count f
  fill-count h (at_first i back) t = refl
  fill-count h (at_branch i first front x back) t = length-append front ((x, t) ∷ back)

  pub fill-view : (h : ℕ) (p : Option ℕ) (f : Frame A h) (t : Subtree A h)
      → view_at A (suc h) p (fill f t) ≡ frame_view p f (id_of A h t)
  fill-view h p (at_first i back) t = refl
  fill-view h p (at_branch i first front x back) t = ap (λ bs. internal p (id_of A h first) bs)
      (map-append (λ b. (b.0, id_of A h b.1)) front ((x, t) ∷ back))

  pub fill-holds : (node_at : NodeMap A) (h : ℕ) (p : Option ℕ) (f : Frame A h) (t : Subtree A h)
      → node_at (frame_id f) ≡ Some (frame_view p f (id_of A h t))
      → SiblingsHold node_at f → Holds A node_at h (Some (frame_id f)) t → Holds A node_at (suc h) p (fill f t)
  fill-holds node_at h p (at_first i back) t e s d = (e, d, s)
  fill-holds node_at h p (at_branch i first front x back) t e s d = (
    e ∙ ap Some (sym (fill-view h p (at_branch i first front x back) t)),
    s.0,
    AllByRecursion-append
        (λ b. Holds A node_at h (Some i) b.1) front ((x, t) ∷ back) s.1 (d, s.2),
  )

  pub record Opened (node_at : NodeMap A) (h : ℕ) (p : Option ℕ) (f : Frame A h) (t : Subtree A h) : Type 0 where
    pub node : node_at (frame_id f) ≡ Some (frame_view p f (id_of A h t))
    pub siblings : SiblingsHold node_at f
    pub inner : Holds A node_at h (Some (frame_id f)) t

  pub open-holds : (node_at : NodeMap A) (h : ℕ) (p : Option ℕ) (f : Frame A h) (t : Subtree A h)
      → Holds A node_at (suc h) p (fill f t) → Opened node_at h p f t
  open-holds node_at h p (at_first i back) t (e, d, s) = record { node = e; siblings = s; inner = d }
  open-holds node_at h p (at_branch i first front x back) t (e, d, s) =
      let P : A × Subtree A h → Type 0 = λ b. Holds A node_at h (Some i) b.1 in
      let r = AllByRecursion-right P front ((x, t) ∷ back) s in
      record {
        node = e ∙ ap Some (fill-view h p (at_branch i first front x back) t);
        siblings = (d, AllByRecursion-left P front ((x, t) ∷ back) s, r.1);
        inner = r.0;
      }

  pub fill-filled : (h : ℕ) (f : Frame A h) (t : Subtree A h) → SiblingsFilled f → IsFilled 3 h (count_at A h t)
      → IsFilledBelow A h t → IsFilledBelow A (suc h) (fill f t)
  fill-filled h (at_first i back) t s z b = (z, b, s)
  fill-filled h (at_branch i first front x back) t s z b = (
    s.0,
    s.1,
    AllByRecursion-append (λ b. IsFilled 3 h (count_at A h b.1) × IsFilledBelow A h b.1) front
        ((x, t) ∷ back) s.2 ((z, b), s.3),
  )

  -- a store that agrees at the numbers of a tree still holds it
  module _ (node_at new : NodeMap A) where
    each-same : (h : ℕ) (p : Option ℕ) (below : (t : Subtree A h) → ((n : ℕ) → 0 < times_under A h n t → new n ≡ node_at n)
        → Holds A node_at h p t → Holds A new h p t)
        (bs : List (A × Subtree A h)) → ((n : ℕ) → 0 < total (λ b. times_under A h n b.1) bs → new n ≡ node_at n)
        → AllByRecursion (λ b. Holds A node_at h p b.1) bs → AllByRecursion (λ b. Holds A new h p b.1) bs
    each-same h p below [] same d = tt
    each-same h p below (b ∷ bs) same d = (
      below b.1 (λ n m. same n (omega arith)) d.0,
      each-same h p below bs
          (λ n m. same n (omega arith)) d.1,
    )

    pub holds-same : (h : ℕ) (p : Option ℕ) (t : Subtree A h) → ((n : ℕ) → 0 < times_under A h n t → new n ≡ node_at n)
        → Holds A node_at h p t → Holds A new h p t
    holds-same zero p t same d = same t.0 (let e = one-self t.0 in omega arith) ∙ d
    holds-same (suc h) p t same d = (
      same t.0 (let e = one-self t.0 in omega arith) ∙ d.0,
      holds-same h (Some t.0) t.1 (λ n m. same n (omega arith)) d.1,
      each-same h (Some t.0) (holds-same h (Some t.0)) t.2 (λ n m. same n (omega arith)) d.2,
    )

    pub eachs-same : (h : ℕ) (p : Option ℕ) (bs : List (A × Subtree A h))
        → ((n : ℕ) → 0 < total (λ b. times_under A h n b.1) bs → new n ≡ node_at n)
        → AllByRecursion (λ b. Holds A node_at h p b.1) bs → AllByRecursion (λ b. Holds A new h p b.1) bs
    eachs-same h p = each-same h p (holds-same h p)

    pub siblings-same : (h : ℕ) (f : Frame A h) → ((n : ℕ) → 0 < times_in_siblings n f → new n ≡ node_at n)
        → SiblingsHold node_at f → SiblingsHold new f
    siblings-same h (at_first i back) same d = eachs-same h (Some i) back (λ n m. same n (omega arith)) d
    siblings-same h (at_branch i first front x back) same d = (
      holds-same h (Some i) first (λ n m. same n (omega arith)) d.0,
      eachs-same h (Some i) front (λ n m. same n (omega arith)) d.1,
      eachs-same h (Some i) back (λ n m. same n (omega arith)) d.2,
    )

    pub above-same : (h : ℕ) (c : Path A h) (hole : ℕ) → ((n : ℕ) → 0 < times_above n c → new n ≡ node_at n)
        → HoldsAbove node_at c hole → HoldsAbove new c hole
    above-same h top hole same d = tt
    above-same h (under f c) hole same d = (
      same (frame_id f) (let e = one-self (frame_id f) in omega (arith, times_in-is h (frame_id f) f)) ∙ d.0,
      siblings-same h f (λ n m. same n (omega (arith, times_in-is h n f))) d.1,
      above-same (suc h) c (frame_id f) (λ n m. same n (omega arith)) d.2,
    )
