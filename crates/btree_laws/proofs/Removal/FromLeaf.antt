-- An item removed from a leaf: the tree, its strain, and the new addresses.
use Rattle.btree_laws.proofs.Common.{◌≡◌, ◌<◌, ◌≤◌, ◌++◌, ◌∷◌, [], ◌∙◌, ◌+◌, ◌-◌, ℕ, suc, inl, inr, List, length, Option, Some, None, refl, sym, ap, subst, arith, append_assoc, length-append, remove, Address, NodeMap, leaf, moved_by_take, one, debt, WritesNode, own_strain, strain_of, KeepsPositions, IsAt, Position, mark, over, passed, address_at, positions_from, path_after, all_positions, Path, items_after, items_before, parent_above, times_above, times_used, IsFocus}
use Rattle.btree_laws.specs.Moved.{in_shortened}
use Rattle.btree_laws.proofs.Paths.Frames.{above-same, one-zero}
use Rattle.btree_laws.proofs.Underflow.Writes.{remove-seam}
use Rattle.btree_laws.proofs.Places.Untouched.{by-more, each-nothing, if-other, if-same, path-after-same}
use Rattle.btree_laws.proofs.Trees.Numbers.{same-or, used-low}
use Rattle.btree_laws.proofs.Strain.Siblings.{own-fewer}
use Rattle.btree_laws.proofs.Splits.InsertionAddresses.{to-passed, positions-parts, positions_until}
use Rattle.btree_laws.proofs.Places.Lists.{keep-append, keep-positions_from, in-cases, in-left, in-right, passed-positions_from}

module _ (A : Type 0) (c : Path A 0) (i : ℕ) (l : List A) (x : A) (r : List A) where
  -- the list without the item
  pub taken-list : remove (items_before c ++ ((l ++ x ∷ r) ++ items_after c)) (length (items_before c) + length l)
      ≡ items_before c ++ ((l ++ r) ++ items_after c)
  taken-list =
      let f : List A = items_before c in
      let b : List A = items_after c in
      let e1 : f ++ ((l ++ x ∷ r) ++ b) ≡ (f ++ l) ++ x ∷ (r ++ b) = simp append_assoc in
      let e2 : (f ++ l) ++ (r ++ b) ≡ f ++ ((l ++ r) ++ b) = simp append_assoc in
      ap (λ z. remove z (length f + length l)) e1
      ∙ (remove-seam (f ++ l) x (r ++ b) (length f + length l) (length-append f l) ∙ e2)

  pub leaf-take : (node_at new : NodeMap A) (root : ℕ) (xs : List A) → IsFocus A node_at [] root xs 0 c (i, l ++ x ∷ r)
      → WritesNode node_at new i (leaf (parent_above c) (l ++ r))
      → IsFocus A new [] root (remove xs (length (items_before c) + length l)) 0 c (i, l ++ r)
  leaf-take node_at new root xs w pu =
      let sum : (n : ℕ) → times_above n c + one n i ≤ 1 = λ n. let o = w.once n in
      let b = used-low (node_at n) in omega arith in
      record {
        above = above-same A node_at new 0 c i (λ n p. let s = sum n in pu.others n (one-zero n i (omega arith))) w.above;
        inner = pu.here;
        once = λ n. elim (same-or n i) [
          | inl is ↦
              let a : times_used (new n) ≡ 1 = rw (is, pu.here) refl in
              let b : times_used (node_at n) ≡ 1 = rw (is, w.inner) refl in
              let o = w.once n in
              omega arith
          | inr ne ↦ let h : times_used (new n) ≡ times_used (node_at n) = ap times_used (pu.others n ne) in let o =
              w.once n in omega arith
        ];
        filled = w.filled;
        below = tt;
        list = ap (λ z. remove z (length (items_before c) + length l)) w.list ∙ taken-list;
        root_is = w.root_is;
      }

  -- the strain, with the debt that is then left
  pub take-strain : strain_of A 0 c (i, l ++ r) + debt c (length (l ++ r)) ≤ suc (strain_of A 0 c (i, l ++ x ∷ r))
  take-strain =
      let p = length-append l (x ∷ r) in
      let q = length-append l r in
      let n : length (l ++ x ∷ r) ≡ suc (length (l ++ r)) = omega arith in
      let e : own_strain A c (length (l ++ x ∷ r)) ≡ own_strain A c (suc (length (l ++ r))) = ap (own_strain A c) n in
      omega (arith, own-fewer A 0 c (length (l ++ r)))

  abbrev Ticks : ℕ → List (Position A)
  Ticks o = positions_from {A = A} {X = A} (λ x. x) (λ x. []) i o r

  -- an address before the item stays
  pub take-before : (expected : Option A) (b : Address) (q : ℕ) → IsAt expected b (positions_until A c i l) q
      → IsAt expected b (all_positions A 0 c (i, l ++ r)) q
  take-before expected b q s =
      subst (λ z. IsAt expected b z q) (sym (positions-parts A c i l r))
      (in-left expected b (positions_until A c i l) (Ticks (length l) ++ path_after A c) q s)

  -- the item's own address becomes that of what was after it
  pub take-itself : IsAt None (address_at i (length l)) (all_positions A 0 c (i, l ++ r)) (length (items_before c) + length l)
  take-itself =
      subst (λ z. IsAt None (address_at i (length l)) z (length (items_before c) + length l)) (sym (positions-parts A c i l r))
      (in-right None (address_at i (length l)) (positions_until A c i l) (Ticks (length l) ++ path_after A c)
      (length (items_before c) + length l) 0 (let p = to-passed A c i l in omega arith) (first r))
    where
      first : (r : List A) → IsAt None (address_at i (length l))
          (positions_from {A = A} {X = A} (λ x. x) (λ x. []) i (length l) r ++ path_after A c) 0
      first [] = inl (refl, refl, tt)
      first (y ∷ r) = inl (refl, refl, tt)

  -- an address after the item is one place earlier
  module _ (apart : times_above i c ≡ 0) where
    abbrev G : Address → Address
    G = moved_by_take i (length l)

    behind-keeps : KeepsPositions G (Ticks (suc (length l)) ++ path_after A c) (Ticks (length l) ++ path_after A c)
    behind-keeps =
        let n : ℕ = length l in
        keep-append G (Ticks (suc n)) (Ticks n) (path_after A c) (path_after A c)
        (passed-positions_from {A = A} {X = A} (λ x. x) (λ x. []) i (suc n) r
        ∙ sym (passed-positions_from {A = A} {X = A} (λ x. x) (λ x. []) i n r))
        (keep-positions_from {A = A} {X = A} (λ x. x) (λ x. []) G i (suc n) i n r
        (λ k low. if-same i i (in_shortened i n (Some (suc n + k))) (address_at i (suc n + k)) refl
        ∙ (by-more (address_at i (suc n + k)) (address_at i n) (address_at i (suc n + k - 1)) (suc n + k) n (omega arith)
        ∙ ap (λ z. address_at i z) (let q : suc n + k - 1 ≡ n + k = omega arith in q)))
        (each-nothing A G r))
        (path-after-same A G 0 c (λ v m. if-other v.id i (in_shortened i n v.offset) v
        (λ e. let z : 0 < times_above i c = subst (λ k. 0 < times_above k c) e m in omega arith)))

    in-passed : (expected : Option A) (b : Address) (ts : List (Position A)) (q : ℕ) → IsAt expected b ts q → q ≤ passed ts
    in-passed expected b [] q s = absurd s
    in-passed expected b (mark d k ∷ ts) q (inl s) = let e = s.1 in omega arith
    in-passed expected b (mark d k ∷ ts) q (inr s) = in-passed expected b ts q s
    in-passed expected b (over ∷ ts) q s = let e = s.1 in let n = in-passed expected b ts s.0 s.2 in omega arith

    pub take-behind : (expected : Option A) (b : Address) (q : ℕ) → length (items_before c) + length l < suc q
        → IsAt expected b (all_positions A 0 c (i, l ++ x ∷ r)) (suc q)
        → IsAt expected (G b) (all_positions A 0 c (i, l ++ r)) q
    take-behind expected b q lt s =
        let p = to-passed A c i l in
        elim (in-cases expected b (positions_until A c i l)
        (mark (address_at i (length l)) (Some x) ∷ over ∷ (Ticks (suc (length l)) ++ path_after A c)) (suc q)
        (subst (λ z. IsAt expected b z (suc q)) (positions-parts A c i l (x ∷ r)) s)) [
          | inl early ↦ absurd (let n = in-passed expected b (positions_until A c i l) (suc q) early in omega arith)
          | inr later ↦ behind later.rest later.is later.there
        ]
      where
        behind : (rest : ℕ) → suc q ≡ passed (positions_until A c i l) + rest
            → IsAt expected b (mark (address_at i (length l)) (Some x) ∷ over ∷ (Ticks (suc (length l)) ++ path_after A c)) rest
            → IsAt expected (G b) (all_positions A 0 c (i, l ++ r)) q
        behind rest is (inl here) = absurd (let e = here.1 in let p = to-passed A c i l in omega arith)
        behind rest is (inr (m, e, there)) =
            subst (λ z. IsAt expected (G b) z q) (sym (positions-parts A c i l r))
            (in-right expected (G b) (positions_until A c i l) (Ticks (length l) ++ path_after A c) q m
            (omega arith) (behind-keeps expected b m there))
