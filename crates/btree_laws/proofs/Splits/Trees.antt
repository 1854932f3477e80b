-- The tree after a node is split: with its focus at the parent, which has one item more, or under a new root.
use Rattle.btree_laws.proofs.Common.{◌≡◌, ◌≢◌, ◌<◌, ◌≤◌, ◌++◌, ◌∷◌, [], ◌∙◌, ◌+◌, ◌-◌, ℕ, suc, inl, inr, List, length, map, Option, Some, None, refl, sym, ap, subst, arith, append_assoc, append-nil, length-append, flat_map-append, length-map, map-append, insert, option_map, with_item, with_parent, NodeMap, internal, one, times_listed, Holds, IsFilled, IsFilledBelow, Subtree, count_at, id_of, items_under, times_under, view_at, Path, Frame, HoldsAbove, SiblingsFilled, SiblingsHold, after_in, at_branch, at_first, before_in, fill_two, frame_count, frame_id, frame_index, frame_view, items_after, items_before, parent_above, root_above, times_above, times_in_siblings, times_in, top, under, times_used, IsFocus}
use Rattle.std.proofs.lemmas.List.Edits.{insert-append_right}
use Rattle.btree_laws.proofs.Paths.Frames.{AllByRecursion-append, above-same, holds-same, one-other, one-self, one-zero, siblings-same, times_in-is, total-append}
use Rattle.btree_laws.proofs.Trees.Numbers.{same-or, used-low, used-mapped}
use Rattle.btree_laws.proofs.Splits.TwoParts.{Parted, reparent_children, right-filled, times-top, times_below}

module _ (A : Type 0) where
  pub fill_two-items : (h : ℕ) (f : Frame A h) (a : Subtree A h) (x : A) (b : Subtree A h)
      → items_under A (suc h)
      (fill_two f a x b) ≡ before_in f ++ ((items_under A h a ++ x ∷ items_under A h b) ++ after_in f)
  fill_two-items h (at_first n back) a x b = simp append_assoc
  fill_two-items h (at_branch n first front y back) a x b = simp (flat_map-append, append_assoc)

  pub fill_two-times : (h n : ℕ) (f : Frame A h) (a : Subtree A h) (x : A) (b : Subtree A h)
      → times_under A (suc h) n (fill_two f a x b) ≡ times_in n f + (times_under A h n a + times_under A h n b)
  fill_two-times h n (at_first i back) a x b = omega arith
  fill_two-times h n (at_branch i first front y back) a x b =
      omega (arith, total-append (λ b. times_under A h n b.1) front ((y, a) ∷ (x, b) ∷ back))

  pub fill_two-id : (h : ℕ) (f : Frame A h) (a : Subtree A h) (x : A) (b : Subtree A h)
      → id_of A (suc h) (fill_two f a x b) ≡ frame_id f
  fill_two-id h (at_first n back) a x b = refl
  fill_two-id h (at_branch n first front y back) a x b = refl

  pub fill_two-count : (h : ℕ) (f : Frame A h) (a : Subtree A h) (x : A) (b : Subtree A h)
      → count_at A (suc h) (fill_two f a x b) ≡ suc (frame_count f)
  fill_two-count h (at_first n back) a x b = refl
  fill_two-count h (at_branch n first front y back) a x b =
      let e = length-append front ((y, a) ∷ (x, b) ∷ back) in omega arith

  pub fill_two-holds : (new : NodeMap A) (h : ℕ) (p : Option ℕ) (f : Frame A h) (a : Subtree A h) (x : A) (b : Subtree A h)
      → new (frame_id f) ≡ Some (view_at A (suc h) p (fill_two f a x b))
      → SiblingsHold new f → Holds A new h (Some (frame_id f)) a → Holds A new h (Some (frame_id f)) b
      → Holds A new (suc h) p (fill_two f a x b)
  fill_two-holds new h p (at_first n back) a x b e s da db = (e, da, (db, s))
  fill_two-holds new h p (at_branch n first front y back) a x b e s da db = (
    e,
    s.0,
    AllByRecursion-append (λ b. Holds A new h (Some n) b.1) front ((y, a) ∷ (x, b) ∷ back) s.1
        (da, (db, s.2)),
  )

  pub fill_two-filled : (h : ℕ) (f : Frame A h) (a : Subtree A h) (x : A) (b : Subtree A h) → SiblingsFilled f
      → IsFilled 3 h (count_at A h a) → IsFilledBelow A h a
      → IsFilled 3 h (count_at A h b) → IsFilledBelow A h b → IsFilledBelow A (suc h) (fill_two f a x b)
  fill_two-filled h (at_first n back) a x b s za ba zb bb = (za, ba, ((zb, bb), s))
  fill_two-filled h (at_branch n first front y back) a x b s za ba zb bb = (
    s.0,
    s.1,
    AllByRecursion-append (λ b. IsFilled 3 h (count_at A h b.1) × IsFilledBelow A h b.1) front
        ((y, a) ∷ (x, b) ∷ back) s.2 ((za, ba), ((zb, bb), s.3)),
  )

  -- a branch inserted into the parent at the child's index
  pub fill_two-view : (h : ℕ) (p : Option ℕ) (f : Frame A h) (a : Subtree A h) (x : A) (b : Subtree A h)
      → with_item (frame_index f) x (Some (id_of A h b)) (frame_view p f (id_of A h a)) ≡ view_at A (suc h) p
      (fill_two f a x b)
  fill_two-view h p (at_first n back) a x b = refl
  fill_two-view h p (at_branch n first front y back) a x b =
      let M : A × Subtree A h → A × ℕ = λ b. (b.0, id_of A h b.1) in
      let tail : List (A × ℕ) = (y, id_of A h a) ∷ map M back in
      let len : length (map M front) ≡ length front = length-map front M in
      let one-more : length front + 1 - length front ≡ 1 = omega arith in
      ap (internal p (id_of A h first))
      (insert-append_right (map M front) tail (length front) (length front + 1) (x, id_of A h b) len (omega arith)
      ∙ (ap (λ k. map M front ++ insert tail k (x, id_of A h b)) one-more
      ∙ sym (map-append M front ((y, a) ∷ (x, b) ∷ back))))

  module _ (node_at mid new : NodeMap A) (spare : List ℕ) (root : ℕ) (xs : List A) where
    pub split-up : (h : ℕ) (f : Frame A h) (c : Path A (suc h)) (t : Subtree A h) (j : ℕ) (x : A)
        (w : IsFocus A node_at (j ∷ spare) root xs h (under f c) t)
        (m : Parted A node_at mid h (Some (frame_id f)) t j x)
        → new (frame_id f) ≡ Some (view_at A (suc h) (parent_above c) (fill_two f m.cut.left x m.cut.right))
        → ((n : ℕ) → n ≢ frame_id f → new n ≡ mid n)
        → IsFocus A new spare root xs (suc h) c (fill_two f m.cut.left x m.cut.right)
    split-up h f c t j x w m e same =
        let a = m.cut.left in
        let b = m.cut.right in
        let q = m.cut.cut in
        let sum : (n : ℕ) → one n (frame_id f) + times_in_siblings n f + times_above n
        c + (times_under A h n t + (one n j + times_listed n spare)) ≤ 1 =
        λ n. let o = w.once n in let k = used-low (node_at n) in omega (arith, times_in-is A h n f) in
        let keep : (n : ℕ) → times_under A h n t ≡ 0 → one n j ≡ 0 → one n (frame_id f) ≡ 0 → new n ≡ node_at n =
        λ n z1 z2 z3. same n (one-zero n (frame_id f) z3) ∙ m.kept n z1 (one-zero n j z2) in
        let sib =
        siblings-same A node_at new h f (λ n p. let s = sum n in keep n (omega arith) (omega arith) (omega arith))
        w.above.1 in
        let abv =
        above-same A node_at new (suc h) c (frame_id f)
        (λ n p. let s = sum n in keep n (omega arith) (omega arith) (omega arith)) w.above.2 in
        let da =
        holds-same A mid new h (Some (frame_id f)) a
        (λ n p. let s = sum n in let qn = q.numbers n in same n (one-zero n (frame_id f) (omega arith)))
        m.cut.left_holds in
        let db =
        holds-same A mid new h (Some (frame_id f)) b
        (λ n p. let s = sum n in let qn = q.numbers n in same n (one-zero n (frame_id f) (omega arith)))
        m.cut.right_holds in
        record {
          above = subst (λ i. HoldsAbove new c i) (sym (fill_two-id h f a x b)) abv;
          inner = fill_two-holds new h (parent_above c) f a x b e sib da db;
          once = λ n. elim (same-or n (frame_id f)) [
            | inl is ↦
                let k : times_used (new n) ≡ 1 = rw (is, e) refl in
                let o = w.once n in
                let k2 : times_used (node_at n) ≡ 1 = rw (is, w.above.0) refl in
                omega (arith, q.numbers n, fill_two-times h n f a x b)
            | inr ne ↦
                let k : times_used (new n) ≡ times_used (node_at n) = ap times_used (same n ne) ∙ m.as_used n in
                omega (arith, w.once n, q.numbers n, fill_two-times h n f a x b)
          ];
          filled = w.filled.2;
          below = fill_two-filled h f a x b w.filled.1 q.left_size q.left_below
              (right-filled A h b q.right_count) q.right_below;
          list = w.list ∙ (rw q.list
              (sym (ap (λ ys. items_before c ++ (ys ++ items_after c)) (fill_two-items h f a x b)
              ∙ simp append_assoc)));
          root_is = ap (root_above c) (fill_two-id h f a x b) ∙ w.root_is;
        }

  -- a new root over the two parts
  module _ (node_at mid new : NodeMap A) (spare : List ℕ) (r root : ℕ) (xs : List A) where
    pub split-top : (h : ℕ) (t : Subtree A h) (j : ℕ) (x : A) (w : IsFocus A node_at (j ∷ r ∷ spare) root xs h top t)
        (m : Parted A node_at mid h None t j x)
        → new r ≡ Some (internal None (id_of A h t) ((x, j) ∷ []))
        → new (id_of A h t) ≡ option_map (with_parent (Some r)) (mid (id_of A h t))
        → new j ≡ option_map (with_parent (Some r)) (mid j)
        → ((n : ℕ) → n ≢ r → n ≢ id_of A h t → n ≢ j → new n ≡ mid n)
        → IsFocus A new spare r xs (suc h) top (r, m.cut.left, (x, m.cut.right) ∷ [])
    split-top h t j x w m er ei ej same =
        let a = m.cut.left in
        let b = m.cut.right in
        let q = m.cut.cut in
        let sum : (n : ℕ) → times_under A h n t + (one n j + (one n r + times_listed n spare)) ≤ 1 =
        λ n. let o = w.once n in let k = used-low (node_at n) in omega arith in
        let sj : (n : ℕ) → 0 < times_below A h n a → (n ≢ r) × (n ≢ id_of A h t) × (n ≢ j) = λ n p.
        let s = sum n in let qn = q.numbers n in let ta = times-top A h n a in let tb = times-top A h n b in
        let li : one n (id_of A h a) ≡ one n (id_of A h t) = ap (one n) q.left_id in
        let ri : one n (id_of A h b) ≡ one n j = ap (one n) q.right_id in
        (one-zero n r (omega arith), one-zero n (id_of A h t) (omega arith), one-zero n j (omega arith)) in
        let sk : (n : ℕ) → 0 < times_below A h n b → (n ≢ r) × (n ≢ id_of A h t) × (n ≢ j) = λ n p.
        let s = sum n in let qn = q.numbers n in let ta = times-top A h n a in let tb = times-top A h n b in
        let li : one n (id_of A h a) ≡ one n (id_of A h t) = ap (one n) q.left_id in
        let ri : one n (id_of A h b) ≡ one n j = ap (one n) q.right_id in
        (one-zero n r (omega arith), one-zero n (id_of A h t) (omega arith), one-zero n j (omega arith)) in
        let da =
        reparent_children A mid new h None (Some r) a (rw q.left_id ei) (λ n p. let s = sj n p in same n s.0 s.1 s.2)
        m.cut.left_holds in
        let db =
        reparent_children A mid new h None (Some r) b (rw q.right_id ej) (λ n p. let s = sk n p in same n s.0 s.1 s.2)
        m.cut.right_holds in
        record {
          above = tt;
          inner = (rw (q.left_id, q.right_id) er, da, (db, tt));
          once = λ n. elim (same-or n r) [
            | inl is ↦
                let k : times_used (new n) ≡ 1 = rw (is, er) refl in
                let o1 = one-self r in
                let o2 : one n r ≡ 1 = rw is o1 in
                let o3 = sum n in
                omega (arith, q.numbers n)
            | inr nr ↦
                let k : times_used (new n) ≡ times_used (node_at n) =
                elim (same-or n (id_of A h t)) [
                  | inl is ↦ rw (is, ei) (used-mapped (with_parent (Some r)) (mid (id_of A h t)) ∙ m.as_used
                      (id_of A h t))
                  | inr ni ↦ elim (same-or n j) [
                    | inl is ↦ rw (is, ej) (used-mapped (with_parent (Some r)) (mid j) ∙ m.as_used j)
                    | inr nj ↦ ap times_used (same n nr ni nj) ∙ m.as_used n
                  ]
                ] in
                let z = one-other n r nr in
                omega (arith, w.once n, q.numbers n)
          ];
          filled = tt;
          below = (q.left_size, q.left_below, (((right-filled A h b q.right_count), q.right_below), tt));
          list = w.list ∙ (rw q.list (simp (append_assoc, append-nil)));
          root_is = refl;
        }
