-- A rotation makes two other nodes of two adjacent siblings, with the same list and the same numbers.
use Rattle.btree_laws.proofs.Common.{◌≡◌, ◌≢◌, ◌<◌, ◌≤◌, ◌++◌, ◌∷◌, [], ◌∙◌, ◌+◌, ℕ, zero, suc, inl, inr, List, length, set, Option, Some, None, refl, sym, ap, subst, arith, append-nil, length-append, is_some, option_map, is_internal, with_parent, NodeMap, View, children_of, items_of, size_of, as_list, one, times_listed, IsRemade, RotatesLeft, Rotates, first_of, Holds, Subtree, count_at, id_of, times_under, view_at, Path, Frame, after_in, before_in, fill_two, frame_id, frame_index, items_after, items_before, parent_above, times_used, same_Some}
use Rattle.std.proofs.lemmas.List.{same_from_push}
use Rattle.btree_view.specs.Edits.{HasChildFor}
use Rattle.btree_laws.specs.SiblingSteps.{RotatesRight, Writes}
use Rattle.btree_laws.proofs.Paths.Frames.{above-same, one-zero, siblings-same, top-view}
use Rattle.btree_laws.proofs.Splits.NodeAddresses.{Apart}
use Rattle.btree_laws.proofs.Underflow.Writes.{child-is, down-between, exchanged-view, first-inside, remade-view, to-left, to-right}
use Rattle.btree_laws.proofs.Paths.Siblings.{IsPair, pair-alone, pair-near}
use Rattle.btree_laws.proofs.Trees.Numbers.{same-or, used-mapped, used-one, zero-or}
use Rattle.btree_laws.proofs.Underflow.TreeAddresses.{rotate-join}
use Rattle.btree_laws.proofs.Trees.Sizes.{view-size}
use Rattle.btree_laws.proofs.Splits.TwoParts.{append_same, join, times-top}
use Rattle.btree_laws.proofs.Underflow.Items.{children_at, children_at-is, items_at, items_at-is, kind-is, same-below, same-items, same-times, turned, rotates-left, rotates-right}
use Rattle.btree_laws.proofs.LookUp.Descent.{cons-parts}

same-ends : (l l' : List ℕ) (o o' : Option ℕ) → is_some o ≡ is_some o' → l ++ as_list o ≡ l' ++ as_list o'
    → (o ≡ o') × (l ≡ l')
same-ends l l' None None k e = (refl, sym (append-nil l) ∙ (e ∙ append-nil l'))
same-ends l l' None (Some n) k e = absurd (cc)
same-ends l l' (Some m) None k e = absurd (cc)
same-ends l l' (Some m) (Some n) k e = let q = same_from_push l l' m n e in (ap Some q.1, q.0)

first-kind : (A : Type 0) (h : ℕ) (s : Subtree A h) → is_some (first_of A h s) ≡ is_internal (view_at A h None s)
first-kind A zero s = refl
first-kind A (suc h) s = refl

module _ (A : Type 0) (node_at new : NodeMap A) where
  -- the two nodes and those below them, after an item moved to the left one
  borrowed-item : (h q : ℕ) (a : Subtree A h) (x : A) (b new_a : Subtree A h) (y : A) (new_b : Subtree A h)
      → Rotates A h a x b new_a y new_b → Apart A h q a b
      → ((n : ℕ) → n ≢ q → n ≢ id_of A h a → n ≢ id_of A h b → 0 < times_listed n (as_list (first_of A h b))
      → new n ≡ option_map (with_parent (Some (id_of A h a))) (node_at n))
      → ((n : ℕ) → n ≢ q → n ≢ id_of A h a → n ≢ id_of A h b → times_listed n (as_list (first_of A h b)) ≡ 0
      → new n ≡ node_at n)
      → new (id_of A h a) ≡ Some (view_at A h (Some q) new_a) → new (id_of A h b) ≡ Some (view_at A h (Some q) new_b)
      → Holds A node_at h (Some q) a → Holds A node_at h (Some q) b
      → Holds A new h (Some q) new_a × Holds A new h (Some q) new_b
  borrowed-item zero q a x b new_a y new_b t near moved kept ei ej da db =
      let n = turned A zero a x b new_a y new_b t in (
        subst (λ i. new i ≡ Some (view_at A zero (Some q) new_a)) (sym n.left_id) ei,
        subst (λ i. new i ≡ Some (view_at A zero (Some q) new_b)) n.right_id ej,
      )
  borrowed-item (suc h) q a x b new_a y new_b t near moved kept ei ej da db =
      let u : Subtree A h = b.1 in
      let l : List (A × Subtree A h) = a.2 ++ (x, u) ∷ [] in
      let near2 = subst (λ (z : Subtree A (suc h)). Apart A (suc h) q a z) t.1 near in
      let moved2 =
      subst (λ (z : Subtree A (suc h)). (n : ℕ) → n ≢ q → n ≢ a.0 → n ≢ z.0 → 0 < times_listed n (id_of A h u ∷ [])
      → new n ≡ option_map (with_parent (Some a.0)) (node_at n)) t.1 moved in
      let kept2 =
      subst (λ (z : Subtree A (suc h)). (n : ℕ) → n ≢ q → n ≢ a.0 → n ≢ z.0 → times_listed n (id_of A h u ∷ []) ≡ 0
      → new n ≡ node_at n) t.1 kept in
      let ei2 = subst (λ (z : Subtree A (suc h)). new a.0 ≡ Some (view_at A (suc h) (Some q) z)) t.0 ei in
      let ej2 = subst (λ (z : Subtree A (suc h)). new z.0 ≡ Some (view_at A (suc h) (Some q) new_b)) t.1 ej in
      let db2 = subst (λ (z : Subtree A (suc h)). Holds A node_at (suc h) (Some q) z) t.1 db in
      let r =
      to-left A node_at new h q a.0 new_b.0 a.1 a.2 x u y new_b.1 new_b.2 near2 moved2 kept2 ei2 ej2 da db2 in
      (subst (λ (z : Subtree A (suc h)). Holds A new (suc h) (Some q) z) (sym t.0) r.0, r.1)

  -- the same after an item moved to the right one
  lent-right : (h q : ℕ) (a : Subtree A h) (x : A) (b new_a : Subtree A h) (y : A) (new_b : Subtree A h)
      → Rotates A h new_a y new_b a x b → Apart A h q a b
      → ((n : ℕ) → n ≢ q → n ≢ id_of A h a → n ≢ id_of A h b → 0 < times_listed n (as_list (first_of A h new_b))
      → new n ≡ option_map (with_parent (Some (id_of A h b))) (node_at n))
      → ((n : ℕ) → n ≢ q → n ≢ id_of A h a → n ≢ id_of A h b → times_listed n (as_list (first_of A h new_b)) ≡ 0
      → new n ≡ node_at n)
      → new (id_of A h a) ≡ Some (view_at A h (Some q) new_a) → new (id_of A h b) ≡ Some (view_at A h (Some q) new_b)
      → Holds A node_at h (Some q) a → Holds A node_at h (Some q) b
      → Holds A new h (Some q) new_a × Holds A new h (Some q) new_b
  lent-right zero q a x b new_a y new_b t near moved kept ei ej da db =
      let n = turned A zero new_a y new_b a x b t in (
        subst (λ i. new i ≡ Some (view_at A zero (Some q) new_a)) n.left_id ei,
        subst (λ i. new i ≡ Some (view_at A zero (Some q) new_b)) (sym n.right_id) ej,
      )
  lent-right (suc h) q a x b new_a y new_b t near moved kept ei ej da db =
      let u : Subtree A h = new_b.1 in
      let near2 = subst (λ (z : Subtree A (suc h)). Apart A (suc h) q z b) t.0 near in
      let moved2 =
      subst (λ (z : Subtree A (suc h)). (n : ℕ) → n ≢ q → n ≢ z.0 → n ≢ b.0 → 0 < times_listed n (id_of A h u ∷ [])
      → new n ≡ option_map (with_parent (Some b.0)) (node_at n)) t.0 moved in
      let kept2 =
      subst (λ (z : Subtree A (suc h)). (n : ℕ) → n ≢ q → n ≢ z.0 → n ≢ b.0 → times_listed n (id_of A h u ∷ []) ≡ 0
      → new n ≡ node_at n) t.0 kept in
      let ei2 = subst (λ (z : Subtree A (suc h)). new z.0 ≡ Some (view_at A (suc h) (Some q) new_a)) t.0 ei in
      let ej2 = subst (λ (z : Subtree A (suc h)). new b.0 ≡ Some (view_at A (suc h) (Some q) z)) t.1 ej in
      let da2 = subst (λ (z : Subtree A (suc h)). Holds A node_at (suc h) (Some q) z) t.0 da in
      let r =
      to-right A node_at new h q new_a.0 b.0 new_a.1 new_a.2 y u x b.1 b.2 near2 moved2 kept2 ei2 ej2 da2 db in
      (r.0, subst (λ (z : Subtree A (suc h)). Holds A new (suc h) (Some q) z) (sym t.1) r.1)

module _ (A : Type 0) (node_at new : NodeMap A) (root : ℕ) (xs : List A) (h : ℕ) (f : Frame A h) (c : Path A (suc h))
    (a : Subtree A h) (x : A) (b : Subtree A h) (p : IsPair A node_at root xs h f c a x b) where
  -- the tree around two new siblings in the place of the old ones
  module _ (new_a : Subtree A h) (y : A) (new_b : Subtree A h) (same : join A h a x b ≡ join A h new_a y new_b)
      (ea : id_of A h new_a ≡ id_of A h a) (eb : id_of A h new_b ≡ id_of A h b) (child : Option ℕ) (adopter : ℕ)
      (inside : (n : ℕ) → times_listed n (as_list child) ≤ times_under A h n a + times_under A h n b)
      (top low high new_top new_low new_high : View A)
      (w : Writes node_at new (frame_id f) (id_of A h a) (id_of A h b) top low high new_top new_low new_high
      (as_list child) adopter) where
    as-used : (n : ℕ) → times_used (new n) ≡ times_used (node_at n)
    as-used n =
        elim (same-or n (frame_id f)) [
          | inl e ↦ by n (frame_id f) top new_top e w.at_parent w.new_parent
          | inr np ↦ elim (same-or n (id_of A h a)) [
            | inl e ↦ by n (id_of A h a) low new_low e w.at_left w.new_left
            | inr na ↦ elim (same-or n (id_of A h b)) [
              | inl e ↦ by n (id_of A h b) high new_high e w.at_right w.new_right
              | inr nb ↦ elim (zero-or (times_listed n (as_list child))) [
                | inl z ↦ ap times_used (w.kept n np na nb z)
                | inr m ↦ ap times_used (w.moved n np na nb m) ∙ used-mapped (with_parent (Some adopter)) (node_at n)
              ]
            ]
          ]
        ]
      where
        by : (n i : ℕ) (v u : View A) → n ≡ i → node_at i ≡ Some v → new i ≡ Some u
            → times_used (new n) ≡ times_used (node_at n)
        by n i v u e l r =
            ap (λ k. times_used (new k)) e ∙ (used-one (new i) u r ∙ (sym (used-one (node_at i) v l)
            ∙ ap (λ k. times_used (node_at k)) (sym e)))

    elsewhere : (n : ℕ) → one n (frame_id f) ≡ 0 → times_under A h n a + times_under A h n b ≡ 0 → new n ≡ node_at n
    elsewhere n z m =
        let ta = times-top A h n a in let tb = times-top A h n b in let i = inside n in
        w.kept n (one-zero n (frame_id f) z) (one-zero n (id_of A h a) (omega arith))
        (one-zero n (id_of A h b) (omega arith)) (omega arith)

    pub rotated : Holds A new h (Some (frame_id f)) new_a → Holds A new h (Some (frame_id f)) new_b
        → new (frame_id f) ≡ Some (view_at A (suc h) (parent_above c) (fill_two f new_a y new_b))
        → IsPair A new root xs h f c new_a y new_b
    rotated da db e =
        let sum = (pair-alone A node_at root xs h f c a x b p).sum in
        let below = same-below A h a x b new_a y new_b same p.left_below p.right_below in
        record {
          above = above-same A node_at new (suc h) c (frame_id f)
              (λ n m. let s = sum n in elsewhere n (omega arith) (omega arith)) p.above;
          parent = e;
          siblings = siblings-same A node_at new h f (λ n m. let s = sum n in elsewhere n (omega arith) (omega arith))
              p.siblings;
          left = da;
          right = db;
          once = λ n.
              let u = as-used n in
              let t = same-times A h a x b new_a y new_b same eb n in
              let o = p.once n in
              omega arith;
          filled = p.filled;
          siblings_filled = p.siblings_filled;
          left_below = below.0;
          right_below = below.1;
          list = p.list ∙ ap (λ ys. items_before c ++ ((before_in f ++ (ys ++ after_in f)) ++ items_after c))
              (same-items A h a x b new_a y new_b same);
          root_is = p.root_is;
        }

  abbrev FId : ℕ
  FId = frame_id f

  left-view : (v : View A) → node_at (id_of A h a) ≡ Some v → v ≡ view_at A h (Some FId) a
  left-view v e = same_Some v (view_at A h (Some FId) a) (sym e ∙ top-view A node_at h (Some FId) a p.left)

  right-view : (v : View A) → node_at (id_of A h b) ≡ Some v → v ≡ view_at A h (Some FId) b
  right-view v e = same_Some v (view_at A h (Some FId) b) (sym e ∙ top-view A node_at h (Some FId) b p.right)

  parent-view : (v : View A) → node_at FId ≡ Some v → v ≡ view_at A (suc h) (parent_above c) (fill_two f a x b)
  parent-view v e = same_Some v (view_at A (suc h) (parent_above c) (fill_two f a x b)) (sym e ∙ p.parent)

  -- after a rotation to the left
  pub record LeftRotation : Type 0 where
    pub new_a : Subtree A h
    pub up : A
    pub new_b : Subtree A h
    pub rotations : Rotates A h a x b new_a up new_b
    pub pair : IsPair A new root xs h f c new_a up new_b

  pub rotate-left : RotatesLeft node_at new FId (frame_index f) (id_of A h a) (id_of A h b) → LeftRotation
  rotate-left r =
      let w = r.writes in
      let low = left-view r.low w.at_left in
      let high = right-view r.high w.at_right in
      let top = parent-view r.top w.at_parent in
      let size : size_of r.high ≡ count_at A h b = ap size_of high ∙ view-size A h (Some FId) b in
      let longer : size_of r.high ≡ suc (size_of r.new_high) = ap length r.high_is.items_are in
      let s = rotates-left A h a x b (omega arith) in
      let k = turned A h a x b s.0 s.1 s.2 s.3 in
      let child : r.child ≡ first_of A h b =
      child-is A h (Some FId) b r.high r.child (children_of r.new_high) high r.child_for r.high_is.children_are in
      let items : r.up ∷ items_of r.new_high ≡ s.1 ∷ items_at A h s.2 =
      sym r.high_is.items_are ∙ (ap items_of high ∙ (items_at-is A h (Some FId) b ∙ k.right_items)) in
      let up = (cons-parts {X = A} items).0 in
      let children : as_list (first_of A h b) ++ children_of r.new_high ≡ as_list (first_of A h b) ++ children_at A h s.2
      =
      ap (λ (o : Option ℕ). as_list o ++ children_of r.new_high) (sym child) ∙ (sym r.high_is.children_are
      ∙ (ap children_of high ∙ (children_at-is A h (Some FId) b ∙ k.right_children))) in
      let down : r.down ≡ x = down-between A h (parent_above c) f a x b r.top r.down top r.down_is in
      let high2 : r.new_high ≡ view_at A h (Some FId) s.2 =
      remade-view A h (Some FId) b s.2 r.high r.new_high (items_at A h s.2) (children_at A h s.2) high
      (record {
        kind = sym r.high_is.kind;
        parent = sym r.high_is.parent;
        items_are = (cons-parts {X = A} items).1;
        children_are = (append_same (as_list (first_of A h b)) (children_of r.new_high) (as_list (first_of A h b))
            (children_at A h s.2) children refl).1;
      }) refl refl in
      let low2 : r.new_low ≡ view_at A h (Some FId) s.0 =
      remade-view A h (Some FId) a s.0 r.low r.new_low (items_of r.low ++ r.down ∷ [])
      (children_of r.low ++ as_list r.child) low r.low_is
      (ap (λ l. l ++ r.down ∷ []) (ap items_of low ∙ items_at-is A h (Some FId) a)
      ∙ (ap (λ d. items_at A h a ++ d ∷ []) down ∙ sym k.left_items))
      (ap (λ l. l ++ as_list r.child) (ap children_of low ∙ children_at-is A h (Some FId) a)
      ∙ (ap (λ d. children_at A h a ++ as_list d) child ∙ sym k.left_children)) in
      let top2 : r.new_top ≡ view_at A (suc h) (parent_above c) (fill_two f s.0 s.1 s.2) =
      exchanged-view A h (parent_above c) f a x b s.0 s.1 s.2 r.top r.new_top k.left_id (sym k.right_id) top
      (subst (λ z. IsRemade r.top r.new_top (set (items_of r.top) (frame_index f) z) (children_of r.top)) up r.top_is) in
      let both =
      borrowed-item A node_at new h FId a x b s.0 s.1 s.2 s.3 (pair-near A node_at root xs h f c a x b p)
      (λ n nq na nb m. w.moved n nq na nb (subst (λ o. 0 < times_listed n (as_list o)) (sym child) m))
      (λ n nq na nb m. w.kept n nq na nb (subst (λ o. times_listed n (as_list o) ≡ 0) (sym child) m))
      (w.new_left ∙ ap Some low2) (w.new_right ∙ ap Some high2) p.left p.right in
      record {
        new_a = s.0;
        up = s.1;
        new_b = s.2;
        rotations = s.3;
        pair = rotated s.0 s.1 s.2 (rotate-join A h a x b s.0 s.1 s.2 s.3) k.left_id (sym k.right_id) r.child
            (id_of A h a)
            (λ n. subst (λ o. times_listed n (as_list o) ≤ times_under A h n a + times_under A h n b) (sym child)
            (let i = first-inside A h n b in let t = times-top A h n b in omega arith))
            r.top r.low r.high r.new_top r.new_low r.new_high w both.0 both.1 (w.new_parent ∙ ap Some top2);
      }

  -- after a rotation to the right
  pub record RightRotation : Type 0 where
    pub new_a : Subtree A h
    pub up : A
    pub new_b : Subtree A h
    pub rotations : Rotates A h new_a up new_b a x b
    pub pair : IsPair A new root xs h f c new_a up new_b

  last-child : (new_a : Subtree A h) (y : A) (new_b : Subtree A h) → Rotates A h new_a y new_b a x b → (v : View A)
      → v ≡ view_at A h (Some FId) a → (rest : List ℕ) (child : Option ℕ) → HasChildFor child v
      → children_of v ≡ rest ++ as_list child
      → (child ≡ first_of A h new_b) × (rest ≡ children_at A h new_a)
  last-child new_a y new_b t v e rest child fits is =
      let k = turned A h new_a y new_b a x b t in
      same-ends rest (children_at A h new_a) child (first_of A h new_b)
      (fits ∙ (ap is_internal e ∙ (kind-is A h (Some FId) None a new_b ∙ sym (first-kind A h new_b))))
      (sym is ∙ (ap children_of e ∙ (children_at-is A h (Some FId) a ∙ k.left_children)))

  pub rotate-right : RotatesRight node_at new FId (frame_index f) (id_of A h a) (id_of A h b) → RightRotation
  rotate-right r =
      let w = r.writes in
      let low = left-view r.low w.at_left in
      let high = right-view r.high w.at_right in
      let top = parent-view r.top w.at_parent in
      let size : size_of r.low ≡ count_at A h a = ap size_of low ∙ view-size A h (Some FId) a in
      let longer = ap length r.low_is.items_are in
      let longer2 = length-append (items_of r.new_low) (r.up ∷ []) in
      let s = rotates-right A h a x b (omega arith) in
      let k = turned A h s.0 s.1 s.2 a x b s.3 in
      let ends = last-child s.0 s.1 s.2 s.3 r.low low (children_of r.new_low) r.child r.child_for
      r.low_is.children_are in
      let child = ends.0 in
      let items =
      same_from_push (items_of r.new_low) (items_at A h s.0) r.up s.1
      (sym r.low_is.items_are ∙ (ap items_of low ∙ (items_at-is A h (Some FId) a ∙ k.left_items))) in
      let down : r.down ≡ x = down-between A h (parent_above c) f a x b r.top r.down top r.down_is in
      let low2 : r.new_low ≡ view_at A h (Some FId) s.0 =
      remade-view A h (Some FId) a s.0 r.low r.new_low (items_at A h s.0) (children_at A h s.0) low
      (record {
        kind = sym r.low_is.kind;
        parent = sym r.low_is.parent;
        items_are = items.0;
        children_are = ends.1;
      }) refl refl in
      let high2 : r.new_high ≡ view_at A h (Some FId) s.2 =
      remade-view A h (Some FId) b s.2 r.high r.new_high (r.down ∷ items_of r.high)
      (as_list r.child ++ children_of r.high) high r.high_is
      (ap (λ l. r.down ∷ l) (ap items_of high ∙ items_at-is A h (Some FId) b)
      ∙ (ap (λ d. d ∷ items_at A h b) down ∙ sym k.right_items))
      (ap (λ l. as_list r.child ++ l) (ap children_of high ∙ children_at-is A h (Some FId) b)
      ∙ (ap (λ d. as_list d ++ children_at A h b) child ∙ sym k.right_children)) in
      let top2 : r.new_top ≡ view_at A (suc h) (parent_above c) (fill_two f s.0 s.1 s.2) =
      exchanged-view A h (parent_above c) f a x b s.0 s.1 s.2 r.top r.new_top (sym k.left_id) k.right_id top
      (subst (λ z. IsRemade r.top r.new_top (set (items_of r.top) (frame_index f) z) (children_of r.top)) items.1
      r.top_is) in
      let both =
      lent-right A node_at new h FId a x b s.0 s.1 s.2 s.3 (pair-near A node_at root xs h f c a x b p)
      (λ n nq na nb m. w.moved n nq na nb (subst (λ o. 0 < times_listed n (as_list o)) (sym child) m))
      (λ n nq na nb m. w.kept n nq na nb (subst (λ o. times_listed n (as_list o) ≡ 0) (sym child) m))
      (w.new_left ∙ ap Some low2) (w.new_right ∙ ap Some high2) p.left p.right in
      let join-same = sym (rotate-join A h s.0 s.1 s.2 a x b s.3) in
      record {
        new_a = s.0;
        up = s.1;
        new_b = s.2;
        rotations = s.3;
        pair = rotated s.0 s.1 s.2 join-same (sym k.left_id) k.right_id r.child (id_of A h b)
            (λ n. subst (λ o. times_listed n (as_list o) ≤ times_under A h n a + times_under A h n b) (sym child)
            (let i = first-inside A h n s.2 in let t = times-top A h n s.2 in
            let q = same-times A h a x b s.0 s.1 s.2 join-same k.right_id n in omega arith))
            r.top r.low r.high r.new_top r.new_low r.new_high w both.0 both.1 (w.new_parent ∙ ap Some top2);
      }
