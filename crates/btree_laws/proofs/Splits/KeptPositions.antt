-- A split keeps the place of each address of the tree.
use Rattle.btree_laws.proofs.Common.{◌≡◌, ◌≢◌, ◌<◌, ◌≤◌, ◌++◌, ◌∷◌, [], ◌∙◌, ◌+◌, ℕ, zero, suc, List, length, Some, None, refl, sym, ap, subst, arith, append_assoc, append-nil, length-append, flat_map-append, Address, moved_by_split, one, total, Subtree, count_at, id_of, items_under, later_items, times_under, KeepsPositions, Position, branch_key, branch_positions, address_before, mark, over, passed, address_at, positions_from, positions, positions_after, positions_before, path_after, path_before, all_positions, Path, Frame, fill, fill_two, frame_id, frame_index, times_above, times_in_siblings, top}
use Rattle.btree_laws.proofs.Paths.Frames.{one-zero}
use Rattle.btree_laws.proofs.Splits.NodeAddresses.{Apart, ids-apart, split-local, split-parent, split-stays}
use Rattle.btree_laws.proofs.Places.Untouched.{if-less, if-not-less, pair_positions, step-keeps, positions-fill, positions-fill_two}
use Rattle.btree_laws.proofs.Splits.TwoParts.{join, times-top}
use Rattle.btree_laws.proofs.Places.Lists.{keep-more, in-left, passed-append, passed-positions_from}

module _ (A : Type 0) where
  -- the positions pass the tree's items
  pub node_positions-passed : (h : ℕ) (below : (t : Subtree A h) → passed (positions A h t) ≡ length (items_under A h t))
      (bs : List (A × Subtree A h))
      → total (λ b. suc (passed (positions A h b.1))) bs ≡ length (later_items A h bs)
  node_positions-passed h below [] = refl
  node_positions-passed h below (b ∷ bs) = omega (
    arith,
    below b.1,
    node_positions-passed h below bs,
    length-append (items_under A h b.1)
        (later_items A h bs),
  )

  pub singles : (xs : List A) → total (λ (x : A). suc (passed {A = A} [])) xs ≡ length xs
  singles [] = refl
  singles (x ∷ xs) = omega (arith, singles xs)

  pub positions-passed : (h : ℕ) (t : Subtree A h) → passed (positions A h t) ≡ length (items_under A h t)
  positions-passed zero t = passed-positions_from {A = A} {X = A} (λ x. x) (λ x. []) t.0 0 t.1 ∙ singles t.1
  positions-passed (suc h) t =
      omega (
        arith,
        passed-append (positions A h t.1) (positions_from (branch_key A h) (branch_positions A h) t.0 0 t.2),
        passed-positions_from (branch_key A h) (branch_positions A h) t.0 0 t.2,
        node_positions-passed h (positions-passed h) t.2,
        positions-passed h t.1,
        length-append (items_under A h t.1) (later_items A h t.2),
      )

  pub join-items : (h : ℕ) (a : Subtree A h) (x : A) (b : Subtree A h)
      → items_under A h (join A h a x b) ≡ items_under A h a ++ x ∷ items_under A h b
  join-items zero a x b = refl
  join-items (suc h) a x b = simp (flat_map-append, append_assoc)

  pub pair-passed : (h : ℕ) (f : Frame A h) (a : Subtree A h) (x : A) (b : Subtree A h)
      → passed (pair_positions A h f a x b) ≡ passed (positions A h (join A h a x b))
  pair-passed h f a x b =
      let e : length (items_under A h (join A h a x b)) ≡ length (items_under A h a ++ x ∷ items_under A h b) =
      ap length (join-items h a x b) in
      omega (
        arith,
        passed-append (positions A h a) (mark (address_at (frame_id f) (frame_index f)) (Some x) ∷ over ∷ positions A h b),
        positions-passed h a,
        positions-passed h b,
        positions-passed h (join A h a x b),
        length-append (items_under A h a) (x ∷ items_under A h b),
      )

  -- two adjacent siblings in their tree, whose nodes are different
  pub record Alone (h : ℕ) (f : Frame A h) (c : Path A (suc h)) (a b : Subtree A h) : Type 0 where
    pub sum : (n : ℕ)
        → times_above n c + (one n (frame_id f) + times_in_siblings n f + (times_under A h n a + times_under A h n b)) ≤ 1

  module _ (h : ℕ) (f : Frame A h) (c : Path A (suc h)) (a : Subtree A h) (x : A) (b : Subtree A h)
      (o : Alone h f c a b) where
    pub near : Apart A h (frame_id f) a b
    near = record { sum = λ n. let q = o.sum n in omega arith }

    pub elsewhere : (g : Address → Address)
        → ((v : Address) → v.id ≢ id_of A h a → v.id ≢ id_of A h b → v.id ≢ frame_id f → g v ≡ v)
        → (v : Address) → 0 < times_in_siblings v.id f + times_above v.id c → g v ≡ v
    elsewhere g stays v m =
        let q = o.sum v.id in let ta = times-top A h v.id a in let tb = times-top A h v.id b in
        stays v (one-zero v.id (id_of A h a) (omega arith)) (one-zero v.id (id_of A h b) (omega arith))
        (one-zero v.id (frame_id f) (omega arith))

    abbrev P : ℕ
    P = frame_id f

    abbrev S : ℕ
    S = frame_index f

    pub split-places : KeepsPositions (moved_by_split (id_of A h a) (id_of A h b) P S (count_at A h a))
        (all_positions A (suc h) c (fill f (join A h a x b))) (all_positions A (suc h) c (fill_two f a x b))
    split-places =
        let i : ℕ = id_of A h a in let j : ℕ = id_of A h b in let n : ℕ = count_at A h a in
        let d = ids-apart A h P a b near in
        let g : Address → Address = moved_by_split i j P S n in
        subst (λ z. KeepsPositions g (all_positions A (suc h) c (fill f (join A h a x b)))
        (path_before A c ++ (z ++ path_after A c))) (sym (positions-fill_two A h f a x b))
        (subst (λ z. KeepsPositions g (path_before A c ++ (z ++ path_after A c))
        (path_before A c ++ ((positions_before A f ++ (pair_positions A h f a x b ++ positions_after A f (suc S))) ++ path_after A
        c))) (sym (positions-fill A h f (join A h a x b)))
        (step-keeps A g h f c (positions A h (join A h a x b)) (pair_positions A h f a x b) S (suc S)
        (split-local A h P S a x b near) (sym (pair-passed h f a x b))
        (elsewhere g (λ v ni nj np. split-stays i j P S n d.1 v ni np))
        (split-parent i j P S n d.1 None)
        (λ m l. split-parent i j P S n d.1 (Some m) ∙ if-less m S (address_at P m) (address_at P (m + 1)) l)
        (λ m. split-parent i j P S n d.1 (Some (S + m))
        ∙ (if-not-less (S + m) S (address_at P (S + m)) (address_at P (S + m + 1)) (omega arith) ∙ ap (λ z. address_at P z)
        (let q : S + m + 1 ≡ suc S + m = omega arith in q)))))

  -- a split of the root, under a new root r
  pub split-root-places : (h r : ℕ) (a : Subtree A h) (x : A) (b : Subtree A h)
      → ((m : ℕ) → one m r + (times_under A h m a + times_under A h m b) ≤ 1)
      → KeepsPositions (moved_by_split (id_of A h a) (id_of A h b) r 0 (count_at A h a)) (all_positions A h top (join A h a x b))
      (all_positions A (suc h) top (r, a, (x, b) ∷ []))
  split-root-places h r a x b apart =
      let near : Apart A h r a b = record { sum = apart } in
      let g : Address → Address = moved_by_split (id_of A h a) (id_of A h b) r 0 (count_at A h a) in
      let J : List (Position A) = positions A h (join A h a x b) in
      let end : List (Position A) = mark (address_at r 1) None ∷ [] in
      let mid : List (Position A) = positions A h a ++ (mark (address_at r 0) (Some x) ∷ over ∷ positions A h b) in
      let new : List (Position A) = mid ++ end in
      let local : KeepsPositions g J mid = split-local A h r 0 a x b near in
      subst (λ z. KeepsPositions g z (all_positions A (suc h) top (r, a, (x, b) ∷ []))) (sym (append-nil J))
      (subst (λ z. KeepsPositions g J z) (sym (append-nil (positions A (suc h) (r, a, (x, b) ∷ []))))
      (subst (λ z. KeepsPositions g J (mark (address_before r) None ∷ z))
      (append_assoc (positions A h a) (mark (address_at r 0) (Some x) ∷ over ∷ positions A h b) end)
      (keep-more g (address_before r) None J new (λ o v u i. in-left o (g v) mid end u (local o v u i)))))
