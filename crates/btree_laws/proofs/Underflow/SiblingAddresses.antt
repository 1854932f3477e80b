-- The positions of two adjacent siblings that are merged, or between which an item moves, and those below.
use Rattle.btree_laws.proofs.Common.{◌≡◌, ◌≢◌, ◌<◌, ◌++◌, ◌∷◌, [], ◌∙◌, ◌+◌, ◌-◌, ◌==◌, if◌then◌else◌, ℕ, zero, suc, inl, inr, List, length, Option, Some, None, refl, sym, ap, subst, arith, length-append, Address, at_separator, moved_by_merge, moved_by_rotate_left, moved_by_rotate_right, Rotates, first_of, total, Subtree, count_at, id_of, times_under, KeepsPositions, IsAt, branch_key, branch_positions, address_before, mark, over, address_at, positions_from, positions}
use Rattle.btree_laws.specs.Moved.{left_after_lending, right_after_merge, right_after_lending, right_after_borrowing, parent_after_merge}
use Rattle.btree_laws.proofs.Paths.Frames.{total-append}
use Rattle.btree_laws.proofs.Splits.NodeAddresses.{Apart, below-kept, ids-apart, pair_row, positions-first}
use Rattle.btree_laws.proofs.Places.Untouched.{by-equal, by-less, by-more, each-nothing, if-other, if-same, positions-same, entries-same}
use Rattle.btree_laws.proofs.Underflow.SiblingRows.{node_positions-left, node_positions-merge, node_positions-right}
use Rattle.btree_laws.proofs.Splits.CutPositions.{positions_from-first}
use Rattle.btree_laws.proofs.Splits.TwoParts.{join}
use Rattle.btree_laws.proofs.Places.Lists.{keep-none, in-left}

-- each function at the addresses that it names
module _ (i j p s n : ℕ) (c : Option ℕ) (ij : i ≢ j) (ip : i ≢ p) (jp : j ≢ p) where
  pub merge-others : (v : Address) → v.id ≢ j → v.id ≢ p → moved_by_merge i j p s n c v ≡ v
  merge-others v nj np = if-other v.id j (right_after_merge i n c v.offset)
      (if v.id == p then (parent_after_merge i p s n v.offset) else v) nj ∙ if-other v.id p (parent_after_merge i p s n v.offset) v np

  pub merge-right : (o : Option ℕ) → moved_by_merge i j p s n c (record { id = j; offset = o }) ≡ right_after_merge i n c o
  merge-right o = if-same j j (right_after_merge i n c o)
      (if j == p then (parent_after_merge i p s n o) else (record { id = j; offset = o })) refl

  pub merge-parent : (o : Option ℕ) → moved_by_merge i j p s n c (record { id = p; offset = o }) ≡ parent_after_merge i p s n o
  merge-parent o =
      if-other p j (right_after_merge i n c o) (if p == p then (parent_after_merge i p s n o) else (record { id = p; offset = o }))
      (λ e. jp (sym e))
      ∙ if-same p p (parent_after_merge i p s n o) (record { id = p; offset = o }) refl

  pub left-others : (v : Address) → v.id ≢ j → v.id ≢ p → moved_by_rotate_left i j p s n c v ≡ v
  left-others v nj np = if-other v.id j (right_after_lending j p s c v.offset)
      (if v.id == p then (at_separator p s (address_at i n) v.offset) else v) nj ∙ if-other v.id p
      (at_separator p s (address_at i n) v.offset) v np

  pub left-right : (o : Option ℕ)
      → moved_by_rotate_left i j p s n c (record { id = j; offset = o }) ≡ right_after_lending j p s c o
  left-right o = if-same j j (right_after_lending j p s c o)
      (if j == p then (at_separator p s (address_at i n) o) else (record { id = j; offset = o })) refl

  pub left-parent : (o : Option ℕ)
      → moved_by_rotate_left i j p s n c (record { id = p; offset = o }) ≡ at_separator p s (address_at i n) o
  left-parent o =
      if-other p j (right_after_lending j p s c o)
      (if p == p then (at_separator p s (address_at i n) o) else (record { id = p; offset = o })) (λ e. jp (sym e))
      ∙ if-same p p (at_separator p s (address_at i n) o) (record { id = p; offset = o }) refl

  pub right-others : (v : Address) → v.id ≢ i → v.id ≢ j → v.id ≢ p → moved_by_rotate_right i j p s n c v ≡ v
  right-others v ni nj np =
      if-other v.id i (left_after_lending i j p s n v.offset)
      (if v.id == j then (right_after_borrowing j c v.offset) else
      (if v.id == p then (at_separator p s (address_at j 0) v.offset) else v)) ni
      ∙ if-other v.id j (right_after_borrowing j c v.offset) (if v.id == p then (at_separator p s (address_at j 0) v.offset) else v)
      nj
      ∙ if-other v.id p (at_separator p s (address_at j 0) v.offset) v np

  pub right-left : (o : Option ℕ)
      → moved_by_rotate_right i j p s n c (record { id = i; offset = o }) ≡ left_after_lending i j p s n o
  right-left o =
      if-same i i (left_after_lending i j p s n o)
      (if i == j then (right_after_borrowing j c o) else
      (if i == p then (at_separator p s (address_at j 0) o) else (record { id = i; offset = o }))) refl

  pub right-right : (o : Option ℕ)
      → moved_by_rotate_right i j p s n c (record { id = j; offset = o }) ≡ right_after_borrowing j c o
  right-right o =
      if-other j i (left_after_lending i j p s n o)
      (if j == j then (right_after_borrowing j c o) else
      (if j == p then (at_separator p s (address_at j 0) o) else (record { id = j; offset = o }))) (λ e. ij (sym e))
      ∙ if-same j j (right_after_borrowing j c o)
      (if j == p then (at_separator p s (address_at j 0) o) else (record { id = j; offset = o })) refl

  pub right-parent : (o : Option ℕ)
      → moved_by_rotate_right i j p s n c (record { id = p; offset = o }) ≡ at_separator p s (address_at j 0) o
  right-parent o =
      if-other p i (left_after_lending i j p s n o)
      (if p == j then (right_after_borrowing j c o) else
      (if p == p then (at_separator p s (address_at j 0) o) else (record { id = p; offset = o }))) (λ e. ip (sym e))
      ∙ if-other p j (right_after_borrowing j c o)
      (if p == p then (at_separator p s (address_at j 0) o) else (record { id = p; offset = o })) (λ e. jp (sym e))
      ∙ if-same p p (at_separator p s (address_at j 0) o) (record { id = p; offset = o }) refl

module _ (A : Type 0) where
  pub merge-local : (h p s : ℕ) (a : Subtree A h) (x : A) (b : Subtree A h) → Apart A h p a b
      → KeepsPositions (moved_by_merge (id_of A h a) (id_of A h b) p s (count_at A h a) (first_of A h b))
      (pair_row A h p s a x b) (positions A h (join A h a x b))
  merge-local zero p s a x b o =
      let d = ids-apart A 0 p a b o in
      let n : ℕ = length a.1 in
      let g : Address → Address = moved_by_merge a.0 b.0 p s n None in
      node_positions-merge (λ (x : A). x) (λ x. []) g a.0 b.0 p s [] a.1 b.1
      (merge-others a.0 b.0 p s n None d.0 d.1 d.2 (address_before a.0) d.0 d.1) (keep-none g) (each-nothing A g a.1)
      (each-nothing A g b.1) x (keep-none g)
      (λ k l. merge-others a.0 b.0 p s n None d.0 d.1 d.2 (address_at a.0 k) d.0 d.1)
      (merge-parent a.0 b.0 p s n None d.0 d.1 d.2 (Some s) ∙ by-equal (address_at p s) (address_at a.0 n)
      (address_at p (s - 1)) s s refl)
      (λ k l. merge-right a.0 b.0 p s n None d.0 d.1 d.2 (Some k))
      (subst (λ z. IsAt None z (positions_from {A = A} {X = A} (λ x. x) (λ x. []) a.0 (suc n) b.1) 0)
      (sym (merge-right a.0 b.0 p s n None d.0 d.1 d.2 None))
      (positions_from-first {A = A} {X = A} (λ x. x) (λ x. []) a.0 (suc n) b.1))
  merge-local (suc h) p s a x b o =
      let d = ids-apart A (suc h) p a b o in
      let n : ℕ = length a.2 in
      let c : Option ℕ = Some (id_of A h b.1) in
      let g : Address → Address = moved_by_merge a.0 b.0 p s n c in
      let kept = below-kept A g (suc h) p a b o (λ v ni nj np. merge-others a.0 b.0 p s n c d.0 d.1 d.2 v nj np) in
      node_positions-merge (branch_key A h) (branch_positions A h) g a.0 b.0 p s (positions A h a.1) a.2 b.2
      (merge-others a.0 b.0 p s n c d.0 d.1 d.2 (address_before a.0) d.0 d.1) (positions-same A g h a.1 (λ v m. kept v (omega arith)))
      (entries-same A g h a.2 (λ v m. kept v (omega arith))) (entries-same A g h b.2 (λ v m. kept v (omega arith))) (x, b.1)
      (positions-same A g h b.1 (λ v m. kept v (omega arith)))
      (λ k l. merge-others a.0 b.0 p s n c d.0 d.1 d.2 (address_at a.0 k) d.0 d.1)
      (merge-parent a.0 b.0 p s n c d.0 d.1 d.2 (Some s) ∙ by-equal (address_at p s) (address_at a.0 n) (address_at p (s - 1)) s s refl)
      (λ k l. merge-right a.0 b.0 p s n c d.0 d.1 d.2 (Some k))
      (subst (λ z. IsAt None z (positions A h b.1 ++ positions_from (branch_key A h) (branch_positions A h) a.0 (suc n) b.2) 0)
      (sym (merge-right a.0 b.0 p s n c d.0 d.1 d.2 None))
      (in-left None (address_before (id_of A h b.1)) (positions A h b.1) (positions_from (branch_key A h) (branch_positions A h) a.0 (suc n) b.2) 0
      (positions-first A h b.1)))

  -- one item from b to a
  left-leaf : (p s i j : ℕ) (ls : List A) (x y : A) (bs : List A) → Apart A 0 p (i, ls) (j, y ∷ bs)
      → KeepsPositions (moved_by_rotate_left i j p s (length ls) None) (pair_row A 0 p s (i, ls) x (j, y ∷ bs))
      (pair_row A 0 p s (i, ls ++ x ∷ []) y (j, bs))
  left-leaf p s i j ls x y bs o =
      let d = ids-apart A 0 p (i, ls) (j, y ∷ bs) o in
      let n : ℕ = length ls in
      let g : Address → Address = moved_by_rotate_left i j p s n None in
      node_positions-left (λ (x : A). x) (λ x. []) g i j p s [] ls bs
      (left-others i j p s n None d.0 d.1 d.2 (address_before i) d.0 d.1) (keep-none g) (each-nothing A g ls)
      (each-nothing A g bs) x y (keep-none g) (keep-none g)
      (λ k l. left-others i j p s n None d.0 d.1 d.2 (address_at i k) d.0 d.1)
      (left-parent i j p s n None d.0 d.1 d.2 (Some s) ∙ if-same s s (address_at i n) (address_at p s) refl)
      (left-right i j p s n None d.0 d.1 d.2 (Some 0))
      (λ k l. ap (λ z. g (address_at j z)) (let q : 1 + k ≡ suc k = omega arith in q) ∙ left-right i j p s n None d.0 d.1 d.2
      (Some (suc k)))
      (inr (inl (left-right i j p s n None d.0 d.1 d.2 None, refl, tt)))

  left-inner : (h p s i j : ℕ) (first : Subtree A h) (ls : List (A × Subtree A h)) (x : A) (u : Subtree A h) (y : A)
      (v : Subtree A h) (bs : List (A × Subtree A h))
      → Apart A (suc h) p (i, first, ls) (j, u, (y, v) ∷ bs)
      → KeepsPositions (moved_by_rotate_left i j p s (length ls) (Some (id_of A h u)))
      (pair_row A (suc h) p s (i, first, ls) x (j, u, (y, v) ∷ bs))
      (pair_row A (suc h) p s (i, first, ls ++ (x, u) ∷ []) y (j, v, bs))
  left-inner h p s i j first ls x u y v bs o =
      let d = ids-apart A (suc h) p (i, first, ls) (j, u, (y, v) ∷ bs) o in
      let n : ℕ = length ls in
      let c : Option ℕ = Some (id_of A h u) in
      let g : Address → Address = moved_by_rotate_left i j p s n c in
      let kept =
      below-kept A g (suc h) p (i, first, ls) (j, u, (y, v) ∷ bs) o
      (λ v ni nj np. left-others i j p s n c d.0 d.1 d.2 v nj np) in
      node_positions-left (branch_key A h) (branch_positions A h) g i j p s (positions A h first) ls bs
      (left-others i j p s n c d.0 d.1 d.2 (address_before i) d.0 d.1) (positions-same A g h first (λ v m. kept v (omega arith)))
      (entries-same A g h ls (λ v m. kept v (omega arith))) (entries-same A g h bs (λ v m. kept v (omega arith))) (x, u)
      (y, v)
      (positions-same A g h u (λ v m. kept v (omega arith))) (positions-same A g h v (λ v m. kept v (omega arith)))
      (λ k l. left-others i j p s n c d.0 d.1 d.2 (address_at i k) d.0 d.1)
      (left-parent i j p s n c d.0 d.1 d.2 (Some s) ∙ if-same s s (address_at i n) (address_at p s) refl)
      (left-right i j p s n c d.0 d.1 d.2 (Some 0))
      (λ k l. ap (λ z. g (address_at j z)) (let q : 1 + k ≡ suc k = omega arith in q) ∙ left-right i j p s n c d.0 d.1 d.2
      (Some (suc k)))
      (subst (λ z. IsAt None z
      (positions A h u ++ (mark (address_at i (suc n)) None ∷ mark (address_at p s) (Some y) ∷ over ∷ positions A (suc h) (j, v, bs))) 0)
      (sym (left-right i j p s n c d.0 d.1 d.2 None))
      (in-left None (address_before (id_of A h u)) (positions A h u)
      (mark (address_at i (suc n)) None ∷ mark (address_at p s) (Some y) ∷ over ∷ positions A (suc h) (j, v, bs)) 0
      (positions-first A h u)))

  pub left-local : (h p s : ℕ) (a : Subtree A h) (x : A) (b a' : Subtree A h) (y : A) (b' : Subtree A h) → Apart A h p a b
      → Rotates A h a x b a' y b'
      → KeepsPositions (moved_by_rotate_left (id_of A h a) (id_of A h b) p s (count_at A h a) (first_of A h b))
      (pair_row A h p s a x b) (pair_row A h p s a' y b')
  left-local zero p s a x b a' y b' o t =
      subst (λ (z : Subtree A 0). KeepsPositions (moved_by_rotate_left a.0 b.0 p s (length a.1) None) (pair_row A 0 p s a x b)
      (pair_row A 0 p s z y b')) (sym t.0)
      (subst (λ (z : Subtree A 0). KeepsPositions (moved_by_rotate_left a.0 z.0 p s (length a.1) None) (pair_row A 0 p s a x z)
      (pair_row A 0 p s (a.0, a.1 ++ x ∷ []) y b')) (sym t.1)
      (left-leaf p s a.0 b'.0 a.1 x y b'.1 (subst (λ (z : Subtree A 0). Apart A 0 p a z) t.1 o)))
  left-local (suc h) p s a x b a' y b' o t =
      let c : Subtree A h = b.1 in
      subst (λ (z : Subtree A (suc h)). KeepsPositions (moved_by_rotate_left a.0 b.0 p s (length a.2) (Some (id_of A h b.1)))
      (pair_row A (suc h) p s a x b) (pair_row A (suc h) p s z y b')) (sym t.0)
      (subst (λ (z : Subtree A (suc h)). KeepsPositions (moved_by_rotate_left a.0 z.0 p s (length a.2) (Some (id_of A h z.1)))
      (pair_row A (suc h) p s a x z) (pair_row A (suc h) p s (a.0, a.1, a.2 ++ (x, c) ∷ []) y b')) (sym t.1)
      (left-inner h p s a.0 b'.0 a.1 a.2 x b.1 y b'.1 b'.2
      (subst (λ (z : Subtree A (suc h)). Apart A (suc h) p a z) t.1 o)))

  -- one item from a to b
  right-leaf : (p s i j : ℕ) (ls : List A) (y x : A) (bs : List A) → Apart A 0 p (i, ls ++ y ∷ []) (j, bs)
      → KeepsPositions (moved_by_rotate_right i j p s (length (ls ++ y ∷ [])) None)
      (pair_row A 0 p s (i, ls ++ y ∷ []) x (j, bs)) (pair_row A 0 p s (i, ls) y (j, x ∷ bs))
  right-leaf p s i j ls y x bs o =
      let d = ids-apart A 0 p (i, ls ++ y ∷ []) (j, bs) o in
      let n : ℕ = length (ls ++ y ∷ []) in
      let e : n ≡ suc (length ls) = omega (arith, length-append ls (y ∷ [])) in
      let g : Address → Address = moved_by_rotate_right i j p s n None in
      node_positions-right (λ (x : A). x) (λ x. []) g i j p s [] ls bs
      (right-left i j p s n None d.0 d.1 d.2 None) (keep-none g) (each-nothing A g ls) (each-nothing A g bs) y x
      (keep-none g) (keep-none g)
      (λ k l. right-left i j p s n None d.0 d.1 d.2 (Some k) ∙ by-less (address_at i k) (address_at p s) (address_at j 0) (suc k) n
      (omega arith))
      (right-left i j p s n None d.0 d.1 d.2 (Some (length ls)) ∙ by-equal (address_at i (length ls)) (address_at p s) (address_at j 0)
      (suc (length ls)) n (omega arith))
      (right-left i j p s n None d.0 d.1 d.2 (Some (suc (length ls))) ∙ by-more (address_at i (suc (length ls))) (address_at p s)
      (address_at j 0) (suc (suc (length ls))) n (omega arith))
      (right-parent i j p s n None d.0 d.1 d.2 (Some s) ∙ if-same s s (address_at j 0) (address_at p s) refl)
      (λ k l. right-right i j p s n None d.0 d.1 d.2 (Some k))
      (subst (λ z. IsAt None z (positions_from {A = A} {X = A} (λ x. x) (λ x. []) j 1 bs) 0)
      (sym (right-right i j p s n None d.0 d.1 d.2 None)) (positions_from-first {A = A} {X = A} (λ x. x) (λ x. []) j 1 bs))

  right-inner : (h p s i j : ℕ) (first : Subtree A h) (ls : List (A × Subtree A h)) (y : A) (v : Subtree A h) (x : A)
      (u : Subtree A h) (bs : List (A × Subtree A h))
      → Apart A (suc h) p (i, first, ls ++ (y, v) ∷ []) (j, u, bs)
      → KeepsPositions (moved_by_rotate_right i j p s (length (ls ++ (y, v) ∷ [])) (Some (id_of A h u)))
      (pair_row A (suc h) p s (i, first, ls ++ (y, v) ∷ []) x (j, u, bs))
      (pair_row A (suc h) p s (i, first, ls) y (j, v, (x, u) ∷ bs))
  right-inner h p s i j first ls y v x u bs o =
      let d = ids-apart A (suc h) p (i, first, ls ++ (y, v) ∷ []) (j, u, bs) o in
      let n : ℕ = length (ls ++ (y, v) ∷ []) in
      let e : n ≡ suc (length ls) = omega (arith, length-append ls ((y, v) ∷ [])) in
      let c : Option ℕ = Some (id_of A h u) in
      let g : Address → Address = moved_by_rotate_right i j p s n c in
      let kept : (w : Address) → 0 < times_under A h w.id first + total (λ b. times_under A h w.id b.1) ls + times_under
      A h w.id v + (times_under A h w.id u + total (λ b. times_under A h w.id b.1) bs) → g w ≡ w =
      λ w m. below-kept A g (suc h) p (i, first, ls ++ (y, v) ∷ []) (j, u, bs) o
      (λ v ni nj np. right-others i j p s n c d.0 d.1 d.2 v ni nj np) w
      (let q = total-append (λ (b : A × Subtree A h). times_under A h w.id b.1) ls ((y, v) ∷ []) in omega arith) in
      node_positions-right (branch_key A h) (branch_positions A h) g i j p s (positions A h first) ls bs
      (right-left i j p s n c d.0 d.1 d.2 None) (positions-same A g h first (λ v m. kept v (omega arith)))
      (entries-same A g h ls (λ v m. kept v (omega arith))) (entries-same A g h bs (λ v m. kept v (omega arith))) (y, v)
      (x, u)
      (positions-same A g h v (λ v m. kept v (omega arith))) (positions-same A g h u (λ v m. kept v (omega arith)))
      (λ k l. right-left i j p s n c d.0 d.1 d.2 (Some k) ∙ by-less (address_at i k) (address_at p s) (address_at j 0) (suc k) n
      (omega arith))
      (right-left i j p s n c d.0 d.1 d.2 (Some (length ls)) ∙ by-equal (address_at i (length ls)) (address_at p s) (address_at j 0)
      (suc (length ls)) n (omega arith))
      (right-left i j p s n c d.0 d.1 d.2 (Some (suc (length ls))) ∙ by-more (address_at i (suc (length ls))) (address_at p s)
      (address_at j 0) (suc (suc (length ls))) n (omega arith))
      (right-parent i j p s n c d.0 d.1 d.2 (Some s) ∙ if-same s s (address_at j 0) (address_at p s) refl)
      (λ k l. right-right i j p s n c d.0 d.1 d.2 (Some k))
      (subst (λ z. IsAt None z (positions A h u ++ positions_from (branch_key A h) (branch_positions A h) j 1 bs) 0)
      (sym (right-right i j p s n c d.0 d.1 d.2 None))
      (in-left None (address_before (id_of A h u)) (positions A h u) (positions_from (branch_key A h) (branch_positions A h) j 1 bs) 0
      (positions-first A h u)))

  pub right-local : (h p s : ℕ) (a : Subtree A h) (x : A) (b a' : Subtree A h) (y : A) (b' : Subtree A h) → Apart A h p a b
      → Rotates A h a' y b' a x b
      → KeepsPositions (moved_by_rotate_right (id_of A h a) (id_of A h b) p s (count_at A h a) (first_of A h b))
      (pair_row A h p s a x b) (pair_row A h p s a' y b')
  right-local zero p s a x b a' y b' o t =
      subst (λ (z : Subtree A 0). KeepsPositions (moved_by_rotate_right a.0 b.0 p s (length a.1) None) (pair_row A 0 p s a x b)
      (pair_row A 0 p s a' y z)) (sym t.1)
      (subst (λ (z : Subtree A 0). KeepsPositions (moved_by_rotate_right z.0 b.0 p s (length z.1) None) (pair_row A 0 p s z x b)
      (pair_row A 0 p s a' y (b.0, x ∷ b.1))) (sym t.0)
      (right-leaf p s a'.0 b.0 a'.1 y x b.1 (subst (λ (z : Subtree A 0). Apart A 0 p z b) t.0 o)))
  right-local (suc h) p s a x b a' y b' o t =
      let c : Subtree A h = b'.1 in
      subst (λ (z : Subtree A (suc h)). KeepsPositions (moved_by_rotate_right a.0 b.0 p s (length a.2) (Some (id_of A h b.1)))
      (pair_row A (suc h) p s a x b) (pair_row A (suc h) p s a' y z)) (sym t.1)
      (subst (λ (z : Subtree A (suc h)). KeepsPositions (moved_by_rotate_right z.0 b.0 p s (length z.2) (Some (id_of A h b.1)))
      (pair_row A (suc h) p s z x b) (pair_row A (suc h) p s a' y (b.0, c, (x, b.1) ∷ b.2))) (sym t.0)
      (right-inner h p s a'.0 b.0 a'.1 a'.2 y c x b.1 b.2
      (subst (λ (z : Subtree A (suc h)). Apart A (suc h) p z b) t.0 o)))
