-- The node that a merge frees is within the strain of the nodes, and a rotation needs none.
use Rattle.btree_laws.proofs.Common.{◌≡◌, ◌≤◌, [], ◌∙◌, ◌+◌, ◌-◌, ℕ, zero, suc, sym, ap, arith, Rotates, Subtree, count_at, debt, own_strain, strain_below, strain_of, surplus, Path, Frame, fill, fill_two, frame_count, top, under}
use Rattle.btree_laws.proofs.Paths.Frames.{fill-count}
use Rattle.btree_laws.proofs.Underflow.TreeAddresses.{rotate-join}
use Rattle.btree_laws.proofs.Splits.Trees.{fill_two-count}
use Rattle.btree_laws.proofs.Splits.TwoParts.{join}
use Rattle.btree_laws.proofs.Strain.Splits.{fill-strain, fill_two-strain, join-count, join-strain, strain-is}
use Rattle.btree_laws.proofs.Underflow.Items.{turned}

module _ (A : Type 0) where
  -- a node with one item fewer, and what it then owes as a root
  pub own-fewer : (h : ℕ) (c : Path A h) (k : ℕ) → own_strain A c k + debt c k ≤ suc (own_strain A c (suc k))
  own-fewer zero top zero = omega arith
  own-fewer zero top (suc k) = omega arith
  own-fewer (suc h) top zero = omega arith
  own-fewer (suc h) top (suc k) = omega arith
  own-fewer zero (under f c) k = omega arith
  own-fewer (suc h) (under f c) k = omega arith

  merge-sizes : (h m n : ℕ) → m + n ≡ 5 → m ≤ 3 → n ≤ 3
      → surplus h (m + suc n) + (4 - (m + suc n)) + 2 ≤ surplus h m + (4 - m) + (surplus h n + (4 - n))
  merge-sizes zero m n e1 e2 e3 = omega arith
  merge-sizes (suc h) m n e1 e2 e3 = omega arith

  rotate-sizes : (h m n : ℕ) → m ≤ 2 → 3 ≤ n
      → surplus h (suc m) + (4 - suc m) + (surplus h n + (4 - n))
      ≤ surplus h m + (4 - m) + (surplus h (suc n) + (4 - suc n))
  rotate-sizes zero m n e1 e2 = omega arith
  rotate-sizes (suc h) m n e1 e2 = omega arith

  module _ (h : ℕ) (f : Frame A h) (c : Path A (suc h)) (a : Subtree A h) (x : A) (b : Subtree A h) where
    -- one for the node that is freed, and the debt that the parent may then have
    pub merge-strain : count_at A h a + count_at A h b ≡ 5 → count_at A h a ≤ 3 → count_at A h b ≤ 3
        → 1 + (strain_of A (suc h) c (fill f (join A h a x b)) + debt c (frame_count f))
        ≤ strain_of A (suc h) c (fill_two f a x b)
    merge-strain e la lb =
        let k1 : own_strain A c (count_at A (suc h) (fill_two f a x b)) ≡ own_strain A c (suc (frame_count f)) =
        ap (own_strain A c) (fill_two-count A h f a x b) in
        let k2 : own_strain A c (count_at A (suc h) (fill f (join A h a x b))) ≡ own_strain A c (frame_count f) =
        ap (own_strain A c) (fill-count A h f (join A h a x b)) in
        let k3 : surplus h (count_at A h (join A h a x b)) + (4 - count_at A h (join A h a x b))
        ≡ surplus h (count_at A h a + suc (count_at A h b)) + (4 - (count_at A h a + suc (count_at A h b))) =
        ap (λ z. surplus h z + (4 - z)) (join-count A h a x b) in
        omega (
          arith,
          strain-is A h a,
          strain-is A h b,
          strain-is A h (join A h a x b),
          join-strain A h a x b,
          fill-strain A h f (join A h a x b),
          fill_two-strain A h f a x b,
          own-fewer (suc h) c (frame_count f),
          merge-sizes h (count_at A h a) (count_at A h b) e la lb,
        )

    module _ (new_a : Subtree A h) (y : A) (new_b : Subtree A h) where
      same-strain : join A h a x b ≡ join A h new_a y new_b
          → strain_below A h a + strain_below A h b ≡ strain_below A h new_a + strain_below A h new_b
      same-strain e =
          sym (join-strain A h a x b) ∙ (ap (strain_below A h) e ∙ join-strain A h new_a y new_b)

      same-parent : own_strain A c (count_at A (suc h) (fill_two f a x b))
          ≡ own_strain A c (count_at A (suc h) (fill_two f new_a y new_b))
      same-parent = ap (own_strain A c) (fill_two-count A h f a x b ∙ sym (fill_two-count A h f new_a y new_b))

      pub left-strain : Rotates A h a x b new_a y new_b → count_at A h a ≤ 2 → 4 ≤ count_at A h b
          → strain_of A (suc h) c (fill_two f new_a y new_b) ≤ strain_of A (suc h) c (fill_two f a x b)
      left-strain t la lb =
          let n = turned A h a x b new_a y new_b t in
          let nb = n.right_count in
          let s1 : surplus h (count_at A h new_a) + (4 - count_at A h new_a)
          ≡ surplus h (suc (count_at A h a)) + (4 - suc (count_at A h a)) =
          ap (λ z. surplus h z + (4 - z)) n.left_count in
          let s2 : surplus h (count_at A h b) + (4 - count_at A h b)
          ≡ surplus h (suc (count_at A h new_b)) + (4 - suc (count_at A h new_b)) =
          ap (λ z. surplus h z + (4 - z)) n.right_count in
          omega (
            arith,
            strain-is A h a,
            strain-is A h b,
            strain-is A h new_a,
            strain-is A h new_b,
            fill_two-strain A h f a x b,
            fill_two-strain A h f new_a y new_b,
            same-strain (rotate-join A h a x b new_a y new_b t),
            same-parent,
            rotate-sizes h (count_at A h a) (count_at A h new_b) la (omega arith),
          )

      pub right-strain : Rotates A h new_a y new_b a x b → count_at A h b ≤ 2 → 4 ≤ count_at A h a
          → strain_of A (suc h) c (fill_two f new_a y new_b) ≤ strain_of A (suc h) c (fill_two f a x b)
      right-strain t lb la =
          let n = turned A h new_a y new_b a x b t in
          let na = n.left_count in
          let s1 : surplus h (count_at A h a) + (4 - count_at A h a)
          ≡ surplus h (suc (count_at A h new_a)) + (4 - suc (count_at A h new_a)) =
          ap (λ z. surplus h z + (4 - z)) n.left_count in
          let s2 : surplus h (count_at A h new_b) + (4 - count_at A h new_b)
          ≡ surplus h (suc (count_at A h b)) + (4 - suc (count_at A h b)) =
          ap (λ z. surplus h z + (4 - z)) n.right_count in
          omega (
            arith,
            strain-is A h a,
            strain-is A h b,
            strain-is A h new_a,
            strain-is A h new_b,
            fill_two-strain A h f a x b,
            fill_two-strain A h f new_a y new_b,
            same-strain (sym (rotate-join A h new_a y new_b a x b t)),
            same-parent,
            rotate-sizes h (count_at A h b) (count_at A h new_a) lb (omega arith),
          )

  -- a root without items that is freed
  pub release-strain : (h n : ℕ) (u : Subtree A h) → strain_of A h top u ≤ strain_of A (suc h) top (n, u, [])
  release-strain h n u = omega (arith, strain-is A h u)
