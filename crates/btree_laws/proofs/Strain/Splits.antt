-- The node that a split uses is within the strain of the nodes.
use Rattle.btree_laws.proofs.Common.{◌≡◌, ◌≤◌, ◌∷◌, [], ◌+◌, ◌-◌, ℕ, zero, suc, List, length, refl, ap, ◌∙◌, arith, length-append, insert, Subtree, count_at, most_at, own_strain, strain, strain_below, strain_of, surplus, Path, Frame, at_branch, at_first, fill, fill_two, frame_count, top, under}
use Rattle.std.proofs.lemmas.List.Edits.{length-insert}
use Rattle.btree_laws.specs.Focus.Strain.{strain_of_siblings}
use Rattle.btree_laws.proofs.Paths.Frames.{fill-count, total-append}
use Rattle.btree_laws.proofs.Splits.Trees.{fill_two-count}
use Rattle.btree_laws.proofs.Splits.TwoParts.{join}

module _ (A : Type 0) where
  pub strain-is : (h : ℕ) (t : Subtree A h)
      → strain A h t ≡ surplus h (count_at A h t) + (4 - count_at A h t) + strain_below A h t
  strain-is zero t = omega arith
  strain-is (suc h) t = refl

  pub fill-strain : (h : ℕ) (f : Frame A h) (t : Subtree A h)
      → strain_below A (suc h) (fill f t) ≡ strain_of_siblings A f + strain A h t
  fill-strain h (at_first n back) t = omega arith
  fill-strain h (at_branch n first front x back) t =
      omega (arith, total-append (λ b. strain A h b.1) front ((x, t) ∷ back))

  pub fill_two-strain : (h : ℕ) (f : Frame A h) (a : Subtree A h) (x : A) (b : Subtree A h)
      → strain_below A (suc h) (fill_two f a x b) ≡ strain_of_siblings A f + (strain A h a + strain A h b)
  fill_two-strain h (at_first n back) a x b = omega arith
  fill_two-strain h (at_branch n first front y back) a x b =
      omega (arith, total-append (λ b. strain A h b.1) front ((y, a) ∷ (x, b) ∷ back))

  pub join-strain : (h : ℕ) (a : Subtree A h) (x : A) (b : Subtree A h)
      → strain_below A h (join A h a x b) ≡ strain_below A h a + strain_below A h b
  join-strain zero a x b = omega arith
  join-strain (suc h) a x b = omega (arith, total-append (λ b. strain A h b.1) a.2 ((x, b.1) ∷ b.2))

  pub join-count : (h : ℕ) (a : Subtree A h) (x : A) (b : Subtree A h)
      → count_at A h (join A h a x b) ≡ count_at A h a + suc (count_at A h b)
  join-count zero a x b = length-append a.1 (x ∷ b.1)
  join-count (suc h) a x b = length-append a.2 ((x, b.1) ∷ b.2)

  -- a node with one item more
  pub own-more : (h : ℕ) (c : Path A h) (k : ℕ) → own_strain A c (suc k) ≤ suc (own_strain A c k)
  own-more zero top k = omega arith
  own-more (suc h) top k = omega arith
  own-more zero (under f c) k = omega arith
  own-more (suc h) (under f c) k = omega arith

  -- the same tree, with its focus at the parent
  pub strain-close : (h : ℕ) (f : Frame A h) (c : Path A (suc h)) (t : Subtree A h)
      → strain_of A h (under f c) t ≡ strain_of A (suc h) c (fill f t)
  strain-close h f c t =
      let e : own_strain A c (count_at A (suc h) (fill f t)) ≡ own_strain A c (frame_count f) =
      ap (own_strain A c) (fill-count A h f t) in
      omega (arith, fill-strain h f t, strain-is h t)

  split-sizes : (h m n k : ℕ) → m ≡ suc (most_at h) → m ≡ n + suc k → (k ≡ 4)
      → surplus h n + (4 - n) + (surplus h k + (4 - k)) + 2 ≤ surplus h m
  split-sizes zero m n k e1 e2 e3 = omega arith
  split-sizes (suc h) m n k e1 e2 e3 = omega arith

  module _ (h : ℕ) (a : Subtree A h) (x : A) (b : Subtree A h) where
    parts-strain : count_at A h (join A h a x b) ≡ suc (most_at h) → count_at A h b ≡ 4
        → strain A h a + strain A h b + 2 ≤ surplus h (count_at A h (join A h a x b)) + strain_below A h
        (join A h a x b)
    parts-strain e n =
        omega (
          arith,
          strain-is h a,
          strain-is h b,
          join-strain h a x b,
          split-sizes h (count_at A h (join A h a x b))
              (count_at A h a) (count_at A h b) e (join-count h a x b) n,
        )

    -- a split uses one node
    pub split-strain : (f : Frame A h) (c : Path A (suc h)) → count_at A h (join A h a x b) ≡ suc (most_at h)
        → count_at A h b ≡ 4
        → 1 + strain_of A (suc h) c (fill_two f a x b) ≤ strain_of A h (under f c) (join A h a x b)
    split-strain f c e n =
        let k : own_strain A c (count_at A (suc h) (fill_two f a x b)) ≡ own_strain A c (suc (frame_count f)) =
        ap (own_strain A c) (fill_two-count A h f a x b) in
        omega (arith, parts-strain e n, fill_two-strain h f a x b, own-more (suc h) c (frame_count f))

    -- and with a new root two
    pub split-root-strain : (r : ℕ) → count_at A h (join A h a x b) ≡ suc (most_at h) → count_at A h b ≡ 4
        → 2 + strain_of A (suc h) top (r, a, (x, b) ∷ []) ≤ strain_of A h top (join A h a x b)
    split-root-strain r e n = omega (arith, parts-strain e n)

  -- an item inserted into a leaf
  pub put-strain : (c : Path A 0) (i : ℕ) (ys : List A) (o : ℕ) (x : A) → o ≤ length ys
      → strain_of A 0 c (i, insert ys o x) ≤ suc (strain_of A 0 c (i, ys))
  put-strain c i ys o x low =
      let n : length (insert ys o x) ≡ suc (length ys) =
      length-insert ys o x low ∙ (let q : length ys + 1 ≡ suc (length ys) = omega arith in q) in
      let e : own_strain A c (length (insert ys o x)) ≡ own_strain A c (suc (length ys)) = ap (own_strain A c) n in
      omega (arith, own-more 0 c (length ys))
