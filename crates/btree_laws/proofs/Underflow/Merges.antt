-- A merge of two adjacent siblings: the tree with its focus at their parent, which has one item fewer.
use Rattle.btree_laws.proofs.Common.{◌≡◌, ◌≢◌, ◌<◌, ◌≤◌, ◌++◌, ◌∷◌, [], ◌∙◌, ◌+◌, ℕ, zero, suc, inl, inr, List, length, map, Option, Some, None, refl, sym, ap, subst, arith, append_assoc, length-append, remove, option_map, with_parent, NodeMap, View, children_of, items_of, IsRemade, Merges, one, times_listed, total, Holds, IsFilled, Subtree, count_at, id_of, times_under, view_at, Path, Frame, HoldsAbove, after_in, before_in, fill, fill_two, frame_id, frame_index, items_after, items_before, parent_above, root_above, times_above, times_used, IsFocus, same_Some}
use Rattle.btree_laws.proofs.Splits.KeptPositions.{join-items}
use Rattle.btree_laws.proofs.Paths.Frames.{AllByRecursion-append, above-same, eachs-same, fill-filled, fill-holds, fill-id, fill-items, fill-times, fill-view, holds-same, one-other, one-self, one-zero, siblings-same, times_in-is, top-view}
use Rattle.btree_laws.proofs.Splits.Upward.{children-below}
use Rattle.btree_laws.proofs.Underflow.Writes.{down-between, frame-parts, remade-view, remove-seam}
use Rattle.btree_laws.proofs.Splits.NodeAddresses.{Apart}
use Rattle.btree_laws.proofs.Paths.Siblings.{IsPair, pair-alone, pair-near}
use Rattle.btree_laws.proofs.Trees.Numbers.{same-or, used-low, used-mapped, used-one, zero-or}
use Rattle.btree_laws.proofs.Splits.TwoParts.{reparent_children, reparents, join, times-top, times_below, total-top}
use Rattle.btree_laws.proofs.Strain.Splits.{join-count}
use Rattle.btree_laws.proofs.Underflow.Items.{children_at, children_at-is, items_at, items_at-is, join-below, join-id, join-times, join-views, numbered}

module _ (A : Type 0) where
  -- the parent without the item and the child after it
  dropped-view : (h : ℕ) (p : Option ℕ) (f : Frame A h) (a : Subtree A h) (x : A) (b t : Subtree A h) (old new : View A)
      → id_of A h t ≡ id_of A h a → old ≡ view_at A (suc h) p (fill_two f a x b)
      → IsRemade old new (remove (items_of old) (frame_index f)) (remove (children_of old) (suc (frame_index f)))
      → new ≡ view_at A (suc h) p (fill f t)
  dropped-view h p f a x b t old new et e r =
      let k = frame-parts A h f in
      let i : ℕ = id_of A h a in
      let j : ℕ = id_of A h b in
      let i1 : items_of old ≡ k.front ++ x ∷ k.back =
      ap items_of e ∙ (items_at-is A (suc h) p (fill_two f a x b) ∙ k.items_are a x b) in
      let c1 : children_of old ≡ (k.before ++ i ∷ []) ++ j ∷ k.behind =
      ap children_of e ∙ (children_at-is A (suc h) p (fill_two f a x b) ∙ (k.children_are a x b
      ∙ sym (append_assoc k.before (i ∷ []) (j ∷ k.behind)))) in
      let long : length (k.before ++ i ∷ []) ≡ suc (frame_index f) =
      (let q = length-append k.before (i ∷ []) in let c = k.before_count in omega arith) in
      remade-view A (suc h) p (fill_two f a x b) (fill f t) old new (remove (items_of old) (frame_index f))
      (remove (children_of old) (suc (frame_index f))) e r
      (ap (λ l. remove l (frame_index f)) i1
      ∙ (remove-seam k.front x k.back (frame_index f) k.front_count ∙ sym (k.one_items t)))
      (ap (λ l. remove l (suc (frame_index f))) c1
      ∙ (remove-seam (k.before ++ i ∷ []) j k.behind (suc (frame_index f)) long
      ∙ (append_assoc k.before (i ∷ []) k.behind
      ∙ (ap (λ n. k.before ++ n ∷ k.behind) (sym et) ∙ sym (k.one_children t)))))

module _ (A : Type 0) (node_at new : NodeMap A) where
  -- the two merged into one node, with the nodes below both
  merged-holds : (h q : ℕ) (a : Subtree A h) (x : A) (b : Subtree A h) → Apart A h q a b
      → ((n : ℕ) → n ≢ q → n ≢ id_of A h a → n ≢ id_of A h b
      → 0 < times_listed n (children_at A h b) → new n ≡ option_map (with_parent (Some (id_of A h a))) (node_at n))
      → ((n : ℕ) → n ≢ q → n ≢ id_of A h a → n ≢ id_of A h b
      → times_listed n (children_at A h b) ≡ 0 → new n ≡ node_at n)
      → new (id_of A h a) ≡ Some (view_at A h (Some q) (join A h a x b))
      → Holds A node_at h (Some q) a → Holds A node_at h (Some q) b → Holds A new h (Some q) (join A h a x b)
  merged-holds zero q a x b near moved kept e da db = e
  merged-holds (suc h) q a x b near moved kept e da db =
      let ids : List ℕ = map {B = ℕ} (λ (m : A × ℕ). m.1) (map (numbered A h) b.2) in
      let sum : (n : ℕ) → one n q
      + (one n a.0 + (times_under A h n a.1 + total (λ (m : A × Subtree A h). times_under A h n m.1) a.2))
      + (one n b.0 + ((one n (id_of A h b.1) + times_below A h n b.1)
      + (times_listed n ids + total (λ (m : A × Subtree A h). times_below A h n m.1) b.2))) ≤ 1 =
      λ n. let o = near.sum n in omega (arith, times-top A h n b.1, total-top A h n b.2) in
      let keep : (n : ℕ) → one n q ≡ 0 → one n a.0 ≡ 0 → one n b.0 ≡ 0
      → one n (id_of A h b.1) + times_listed n ids ≡ 0 → new n ≡ node_at n =
      λ n z1 z2 z3 z4. kept n (one-zero n q z1) (one-zero n a.0 z2) (one-zero n b.0 z3) z4 in
      let move : (n : ℕ) → one n q ≡ 0 → one n a.0 ≡ 0 → one n b.0 ≡ 0
      → 0 < one n (id_of A h b.1) + times_listed n ids → new n ≡ option_map (with_parent (Some a.0)) (node_at n) =
      λ n z1 z2 z3 z4. moved n (one-zero n q z1) (one-zero n a.0 z2) (one-zero n b.0 z3) z4 in (
        e,
        holds-same A node_at new h (Some a.0) a.1
            (λ n m. let s = sum n in keep n (omega arith) (omega arith) (omega arith) (omega arith)) da.1,
        AllByRecursion-append (λ m. Holds A new h (Some a.0) m.1) a.2 ((x, b.1) ∷ b.2)
            (eachs-same A node_at new h (Some a.0) a.2
            (λ n m. let s = sum n in keep n (omega arith) (omega arith) (omega arith) (omega arith)) da.2) (
              reparent_children A node_at new h (Some b.0) (Some a.0) b.1
                  (let k = one-self (id_of A h b.1) in let s = sum (id_of A h b.1) in
                  move (id_of A h b.1) (omega arith) (omega arith) (omega arith) (omega arith))
                  (λ n m. let s = sum n in keep n (omega arith) (omega arith) (omega arith) (omega arith)) db.1,
              reparents A node_at new h b.0 a.0 (Some b.0) b.2
                  (λ n m. let s = sum n in move n (omega arith) (omega arith) (omega arith) (omega arith))
                  (λ n m. let s = sum n in keep n (omega arith) (omega arith) (omega arith) (omega arith)) db.2,
            ),
      )

  module _ (root : ℕ) (xs : List A) (h : ℕ) (f : Frame A h) (c : Path A (suc h)) (a : Subtree A h) (x : A)
      (b : Subtree A h) (p : IsPair A node_at root xs h f c a x b)
      (r : Merges node_at new (frame_id f) (frame_index f) (id_of A h a) (id_of A h b)) where
    abbrev Q : ℕ
    Q = frame_id f

    abbrev J : Subtree A h
    J = join A h a x b

    low-is : r.low ≡ view_at A h (Some Q) a
    low-is = same_Some r.low (view_at A h (Some Q) a) (sym r.at_left ∙ top-view A node_at h (Some Q) a p.left)

    high-is : r.high ≡ view_at A h (Some Q) b
    high-is = same_Some r.high (view_at A h (Some Q) b) (sym r.at_right ∙ top-view A node_at h (Some Q) b p.right)

    top-is : r.top ≡ view_at A (suc h) (parent_above c) (fill_two f a x b)
    top-is = same_Some r.top (view_at A (suc h) (parent_above c) (fill_two f a x b)) (sym r.at_parent ∙ p.parent)

    down-is : r.down ≡ x
    down-is = down-between A h (parent_above c) f a x b r.top r.down top-is r.down_is

    children-are : children_of r.high ≡ children_at A h b
    children-are = ap children_of high-is ∙ children_at-is A h (Some Q) b

    new-low-is : r.new_low ≡ view_at A h (Some Q) J
    new-low-is =
        let v = join-views A h a x b in
        remade-view A h (Some Q) a J r.low r.new_low (items_of r.low ++ r.down ∷ items_of r.high)
        (children_of r.low ++ children_of r.high) low-is r.low_is
        (ap (λ l. l ++ r.down ∷ items_of r.high) (ap items_of low-is ∙ items_at-is A h (Some Q) a)
        ∙ (ap (λ l. items_at A h a ++ r.down ∷ l) (ap items_of high-is ∙ items_at-is A h (Some Q) b)
        ∙ (ap (λ d. items_at A h a ++ d ∷ items_at A h b) down-is ∙ sym v.0)))
        (ap (λ l. l ++ children_of r.high) (ap children_of low-is ∙ children_at-is A h (Some Q) a)
        ∙ (ap (λ l. children_at A h a ++ l) children-are ∙ sym v.1))

    below-right : (n : ℕ) → times_listed n (children_of r.high) ≤ times_below A h n b
    below-right n = subst (λ l. times_listed n l ≤ times_below A h n b) (sym children-are)
        (children-below A h n None b)

    as-used : (n : ℕ) → n ≢ id_of A h b → times_used (new n) ≡ times_used (node_at n)
    as-used n nb =
        elim (same-or n (frame_id f)) [
          | inl e ↦ by (frame_id f) r.top r.new_top e r.at_parent r.new_parent
          | inr np ↦ elim (same-or n (id_of A h a)) [
            | inl e ↦ by (id_of A h a) r.low r.new_low e r.at_left r.new_left
            | inr na ↦ elim (zero-or (times_listed n (children_of r.high))) [
              | inl z ↦ ap times_used (r.kept n np na nb z)
              | inr m ↦ ap times_used (r.moved n np na nb m)
                  ∙ used-mapped (with_parent (Some (id_of A h a))) (node_at n)
            ]
          ]
        ]
      where
        by : (i : ℕ) (v u : View A) → n ≡ i → node_at i ≡ Some v → new i ≡ Some u → times_used (new n) ≡ times_used (node_at n)
        by i v u e l m =
            ap (λ k. times_used (new k)) e ∙ (used-one (new i) u m ∙ (sym (used-one (node_at i) v l)
            ∙ ap (λ k. times_used (node_at k)) (sym e)))

    keep : (n : ℕ) → one n Q ≡ 0 → times_under A h n a + times_under A h n b ≡ 0 → new n ≡ node_at n
    keep n z m =
        let ta = times-top A h n a in let tb = times-top A h n b in let i = below-right n in
        r.kept n (one-zero n Q z) (one-zero n (id_of A h a) (omega arith)) (one-zero n (id_of A h b) (omega arith))
        (omega arith)

    once-merged : (n : ℕ) → times_above n c + (times_under A (suc h) n (fill f J) + 0) ≡ times_used (new n)
    once-merged n =
        let s = (pair-alone A node_at root xs h f c a x b p).sum n in
        let o = p.once n in
        let ft = fill-times A h n f J in
        let ti = times_in-is A h n f in
        let jt = join-times A h n a x b in
        let tb = times-top A h n b in
        elim (same-or n (id_of A h b)) [
          | inl is ↦
              let g : times_used (new n) ≡ 0 = rw (is, r.removed) refl in
              let k : one n (id_of A h b) ≡ 1 = subst (λ z. one n z ≡ 1) is (one-self n) in
              let l = used-low (node_at n) in
              omega arith
          | inr ne ↦ let g = as-used n ne in let k = one-other n (id_of A h b) ne in omega arith
        ]

    pub merged : IsFilled 3 h (count_at A h a + suc (count_at A h b)) → IsFocus A new [] root xs (suc h) c (fill f J)
    merged z =
        let sum = (pair-alone A node_at root xs h f c a x b p).sum in
        let held =
        merged-holds h Q a x b (pair-near A node_at root xs h f c a x b p)
        (λ n nq na nb m. r.moved n nq na nb (subst (λ l. 0 < times_listed n l) (sym children-are) m))
        (λ n nq na nb m. r.kept n nq na nb (subst (λ l. times_listed n l ≡ 0) (sym children-are) m))
        (r.new_left ∙ ap Some new-low-is) p.left p.right in
        let top2 =
        dropped-view A h (parent_above c) f a x b J r.top r.new_top (join-id A h a x b) top-is r.top_is in
        record {
          above = subst (λ i. HoldsAbove new c i) (sym (fill-id A h f J)) (above-same A node_at new (suc h) c Q
              (λ n m. let s = sum n in keep n (omega arith) (omega arith)) p.above);
          inner = fill-holds A new h (parent_above c) f J
              (r.new_parent ∙ ap Some (top2 ∙ fill-view A h (parent_above c) f J))
              (siblings-same A node_at new h f (λ n m. let s = sum n in keep n (omega arith) (omega arith)) p.siblings)
              held;
          once = once-merged;
          filled = p.filled;
          below = fill-filled A h f J p.siblings_filled
              (subst (λ n. IsFilled 3 h n) (sym (join-count A h a x b)) z)
              (join-below A h a x b p.left_below p.right_below);
          list = p.list ∙ ap (λ ys. items_before c ++ (ys ++ items_after c))
              (ap (λ ys. before_in f ++ (ys ++ after_in f)) (sym (join-items A h a x b)) ∙ sym (fill-items A h f J));
          root_is = ap (root_above c) (fill-id A h f J) ∙ p.root_is;
        }
