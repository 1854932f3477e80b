-- Two adjacent siblings, whatever their numbers of items: a node and the child before or after it.
use Rattle.btree_laws.proofs.Common.{◌≡◌, ◌<◌, ◌++◌, ◌∷◌, [], ◌∙◌, ◌+◌, ℕ, suc, List, map, Some, refl, sym, ap, subst, arith, append_assoc, append-nil, length-append, flat_map-append, map-append, NodeMap, internal, Holds, IsFilled, IsFilledBelow, Subtree, count_at, id_of, items_under, times_under, view_at, Path, AreFilled, Frame, HoldsAbove, SiblingsFilled, SiblingsHold, after_in, at_branch, at_first, before_in, fill, fill_two, frame_count, frame_id, frame_index, items_after, items_before, parent_above, root_above, times_above, times_in, under, times_used, IsFocus}
use Rattle.btree_laws.proofs.Splits.KeptPositions.{Alone}
use Rattle.btree_laws.proofs.LookUp.Descent.{snoc}
use Rattle.btree_laws.proofs.Paths.Frames.{AllByRecursion-left, AllByRecursion-right, fill-view, times_in-is, total-append}
use Rattle.btree_laws.proofs.Splits.NodeAddresses.{Apart}
use Rattle.btree_laws.proofs.Trees.Numbers.{used-low}
use Rattle.btree_laws.proofs.Splits.Trees.{fill_two-filled, fill_two-holds, fill_two-id, fill_two-items, fill_two-times}

-- the two, with the item between them, in their tree
pub record IsPair (A : Type 0) (node_at : NodeMap A) (root : ℕ) (xs : List A) (h : ℕ) (f : Frame A h) (c : Path A (suc h))
    (a : Subtree A h) (x : A) (b : Subtree A h) : Type 0 where
  pub above : HoldsAbove node_at c (frame_id f)
  pub parent : node_at (frame_id f) ≡ Some (view_at A (suc h) (parent_above c) (fill_two f a x b))
  pub siblings : SiblingsHold node_at f
  pub left : Holds A node_at h (Some (frame_id f)) a
  pub right : Holds A node_at h (Some (frame_id f)) b
  pub once : (n : ℕ)
      → times_above n c + (times_in n f + (times_under A h n a + times_under A h n b)) ≡ times_used (node_at n)
  pub filled : AreFilled c
  pub siblings_filled : SiblingsFilled f
  pub left_below : IsFilledBelow A h a
  pub right_below : IsFilledBelow A h b
  pub list : xs ≡ items_before c
      ++ ((before_in f ++ ((items_under A h a ++ x ∷ items_under A h b) ++ after_in f)) ++ items_after c)
  pub root_is : root_above c (frame_id f) ≡ root

module _ (A : Type 0) (node_at : NodeMap A) (root : ℕ) (xs : List A) (h : ℕ) where
  module _ (f : Frame A h) (c : Path A (suc h)) (a : Subtree A h) (x : A) (b : Subtree A h)
      (p : IsPair A node_at root xs h f c a x b) where
    pub pair-alone : Alone A h f c a b
    pair-alone = record {
      sum = λ n. let o = p.once n in let k = used-low (node_at n) in omega (arith, times_in-is A h n f);
    }

    pub pair-near : Apart A h (frame_id f) a b
    pair-near = record { sum = λ n. let o = pair-alone.sum n in omega arith }

    -- if both have their number of items
    pub pair-whole : IsFilled 3 h (count_at A h a) → IsFilled 3 h (count_at A h b)
        → IsFocus A node_at [] root xs (suc h) c (fill_two f a x b)
    pair-whole za zb = record {
      above = subst (λ i. HoldsAbove node_at c i) (sym (fill_two-id A h f a x b)) p.above;
      inner = fill_two-holds A node_at h (parent_above c) f a x b p.parent p.siblings p.left p.right;
      once = λ n. omega (arith, p.once n, fill_two-times A h n f a x b);
      filled = p.filled;
      below = fill_two-filled A h f a x b p.siblings_filled za p.left_below zb p.right_below;
      list = p.list ∙ ap (λ ys. items_before c ++ (ys ++ items_after c)) (sym (fill_two-items A h f a x b));
      root_is = ap (root_above c) (fill_two-id A h f a x b) ∙ p.root_is;
    }

  module _ (c : Path A (suc h)) (t : Subtree A h) where
    -- a node and the child after it
    pub record AfterIt (f : Frame A h) : Type 0 where
      pub frame : Frame A h
      pub between : A
      pub right : Subtree A h
      pub pair : IsPair A node_at root xs h frame c t between right
      pub same : fill f t ≡ fill_two frame t between right
      pub index_is : frame_index frame ≡ frame_index f
      pub id_is : frame_id frame ≡ frame_id f
      pub count_is : frame_count f ≡ suc (frame_count frame)
      pub right_filled : IsFilled 3 h (count_at A h right)

    pub after-it : (f : Frame A h) → frame_index f < frame_count f → IsFocus A node_at [] root xs h (under f c) t
        → AfterIt f
    after-it (at_first n []) lt w = absurd (omega arith)
    after-it (at_first n ((x, b) ∷ back)) lt w =
        record {
          frame = at_first n back;
          between = x;
          right = b;
          pair = record {
            above = w.above.2;
            parent = w.above.0;
            siblings = w.above.1.1;
            left = w.inner;
            right = w.above.1.0;
            once = λ m. omega (arith, w.once m);
            filled = w.filled.2;
            siblings_filled = w.filled.1.1;
            left_below = w.below;
            right_below = w.filled.1.0.1;
            list = w.list ∙ simp append_assoc;
            root_is = w.root_is;
          };
          same = refl;
          index_is = refl;
          id_is = refl;
          count_is = refl;
          right_filled = w.filled.1.0.0;
        }
    after-it (at_branch n first front y []) lt w = absurd (omega arith)
    after-it (at_branch n first front y ((x, b) ∷ back)) lt w =
        record {
          frame = at_branch n first front y back;
          between = x;
          right = b;
          pair = record {
            above = w.above.2;
            parent = w.above.0
                ∙ ap Some (sym (fill-view A h (parent_above c) (at_branch n first front y ((x, b) ∷ back)) t));
            siblings = (w.above.1.0, w.above.1.1, w.above.1.2.1);
            left = w.inner;
            right = w.above.1.2.0;
            once = λ m. omega (arith, w.once m);
            filled = w.filled.2;
            siblings_filled = (w.filled.1.0, w.filled.1.1, w.filled.1.2, w.filled.1.3.1);
            left_below = w.below;
            right_below = w.filled.1.3.0.1;
            list = w.list ∙ simp append_assoc;
            root_is = w.root_is;
          };
          same = refl;
          index_is = refl;
          id_is = refl;
          count_is = omega arith;
          right_filled = w.filled.1.3.0.0;
        }

    -- a node and the child before it
    pub record BeforeIt (f : Frame A h) : Type 0 where
      pub frame : Frame A h
      pub left : Subtree A h
      pub between : A
      pub pair : IsPair A node_at root xs h frame c left between t
      pub same : fill f t ≡ fill_two frame left between t
      pub index_is : suc (frame_index frame) ≡ frame_index f
      pub id_is : frame_id frame ≡ frame_id f
      pub count_is : frame_count f ≡ suc (frame_count frame)
      pub left_filled : IsFilled 3 h (count_at A h left)

    before-first : (n : ℕ) (l : Subtree A h) (x : A) (back : List (A × Subtree A h))
        → IsFocus A node_at [] root xs h (under (at_branch n l [] x back) c) t → BeforeIt (at_branch n l [] x back)
    before-first n l x back w =
        record {
          frame = at_first n back;
          left = l;
          between = x;
          pair = record {
            above = w.above.2;
            parent = w.above.0;
            siblings = w.above.1.2;
            left = w.above.1.0;
            right = w.inner;
            once = λ m. omega (arith, w.once m);
            filled = w.filled.2;
            siblings_filled = w.filled.1.3;
            left_below = w.filled.1.1;
            right_below = w.below;
            list = w.list ∙ simp (append_assoc, append-nil);
            root_is = w.root_is;
          };
          same = refl;
          index_is = refl;
          id_is = refl;
          count_is = omega arith;
          left_filled = w.filled.1.0;
        }

    before-next : (n : ℕ) (first : Subtree A h) (front : List (A × Subtree A h)) (y : A) (l : Subtree A h) (x : A)
        (back : List (A × Subtree A h))
        → IsFocus A node_at [] root xs h (under (at_branch n first (front ++ (y, l) ∷ []) x back) c) t
        → BeforeIt (at_branch n first (front ++ (y, l) ∷ []) x back)
    before-next n first front y l x back w =
        let M : A × Subtree A h → A × ℕ = λ b. (b.0, id_of A h b.1) in
        let H : A × Subtree A h → Type 0 = λ b. Holds A node_at h (Some n) b.1 in
        let F : A × Subtree A h → Type 0 = λ b. IsFilled 3 h (count_at A h b.1) × IsFilledBelow A h b.1 in
        let e : map M (front ++ (y, l) ∷ []) ++ (x, id_of A h t) ∷ map M back ≡ map M (front ++ (y, l) ∷ (x, t) ∷ back)
        =
        sym (map-append M (front ++ (y, l) ∷ []) ((x, t) ∷ back))
        ∙ ap (map M) (append_assoc front ((y, l) ∷ []) ((x, t) ∷ back)) in
        let len = length-append front ((y, l) ∷ []) in
        record {
          frame = at_branch n first front y back;
          left = l;
          between = x;
          pair = record {
            above = w.above.2;
            parent = w.above.0 ∙ ap (λ z. Some (internal (parent_above c) (id_of A h first) z)) e;
            siblings = (w.above.1.0, AllByRecursion-left H front ((y, l) ∷ []) w.above.1.1, w.above.1.2);
            left = (AllByRecursion-right H front ((y, l) ∷ []) w.above.1.1).0;
            right = w.inner;
            once = λ m. omega (arith, w.once m, total-append (λ b. times_under A h m b.1) front ((y, l) ∷ []));
            filled = w.filled.2;
            siblings_filled = (
              w.filled.1.0,
              w.filled.1.1,
              AllByRecursion-left F front ((y, l) ∷ []) w.filled.1.2,
              w.filled.1.3,
            );
            left_below = (AllByRecursion-right F front ((y, l) ∷ []) w.filled.1.2).0.1;
            right_below = w.below;
            list = w.list ∙ simp (append_assoc, append-nil, flat_map-append);
            root_is = w.root_is;
          };
          same = ap (λ z. (n, first, z)) (append_assoc front ((y, l) ∷ []) ((x, t) ∷ back));
          index_is = omega arith;
          id_is = refl;
          count_is = omega arith;
          left_filled = (AllByRecursion-right F front ((y, l) ∷ []) w.filled.1.2).0.0;
        }

    pub before-it : (f : Frame A h) → 0 < frame_index f → IsFocus A node_at [] root xs h (under f c) t → BeforeIt f
    before-it (at_first n back) lt w = absurd (omega arith)
    before-it (at_branch n first [] x back) lt w = before-first n first x back w
    before-it (at_branch n first (b ∷ front) x back) lt w =
        let s = snoc b front in
        subst (λ l. IsFocus A node_at [] root xs h (under (at_branch n first l x back) c) t
        → BeforeIt (at_branch n first l x back)) (sym s.2)
        (before-next n first s.0 s.1.0 s.1.1 x back) w
