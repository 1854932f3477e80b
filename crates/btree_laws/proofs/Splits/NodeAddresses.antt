-- The positions of a node that is split, and those below it.
use Rattle.btree_laws.proofs.Common.{◌≡◌, ◌≢◌, ◌<◌, ◌≤◌, ◌++◌, ◌∷◌, [], ◌∙◌, ◌+◌, ◌-◌, ◌==◌, if◌then◌else◌, ℕ, zero, suc, inl, List, length, Option, Some, None, refl, sym, ap, subst, arith, Address, moved_by_split, one, Subtree, count_at, id_of, times_under, KeepsPositions, IsAt, Position, branch_key, branch_positions, address_before, mark, over, address_at, positions}
use Rattle.btree_laws.specs.Moved.{node_after_split, parent_after_split}
use Rattle.btree_laws.proofs.Paths.Frames.{one-self, one-zero}
use Rattle.btree_laws.proofs.Places.Untouched.{by-equal, by-less, by-more, each-nothing, if-other, if-same, positions-same, entries-same}
use Rattle.btree_laws.proofs.Splits.CutPositions.{node_positions-split}
use Rattle.btree_laws.proofs.Splits.TwoParts.{join, times-top, times_below}
use Rattle.btree_laws.proofs.Places.Lists.{keep-none}

-- `moved_by_split` at the addresses that it names
module _ (i j p s n : ℕ) (ip : i ≢ p) where
  pub split-stays : (v : Address) → v.id ≢ i → v.id ≢ p → moved_by_split i j p s n v ≡ v
  split-stays v ni np = if-other v.id i (node_after_split i j p s n v.offset) (if v.id == p then parent_after_split p s v.offset else v)
      ni ∙ if-other v.id p (parent_after_split p s v.offset) v np

  pub split-left : (o : Option ℕ) → moved_by_split i j p s n (record { id = i; offset = o }) ≡ node_after_split i j p s n o
  split-left o = if-same i i (node_after_split i j p s n o)
      (if i == p then parent_after_split p s o else (record { id = i; offset = o })) refl

  pub split-parent : (o : Option ℕ) → moved_by_split i j p s n (record { id = p; offset = o }) ≡ parent_after_split p s o
  split-parent o =
      if-other p i (node_after_split i j p s n o) (if p == p then parent_after_split p s o else (record { id = p; offset = o }))
      (λ e. ip (sym e))
      ∙ if-same p p (parent_after_split p s o) (record { id = p; offset = o }) refl

module _ (A : Type 0) where
  pub positions-first : (h : ℕ) (t : Subtree A h) → IsAt None (address_before (id_of A h t)) (positions A h t) 0
  positions-first zero t = inl (refl, refl, tt)
  positions-first (suc h) t = inl (refl, refl, tt)

  -- the three nodes of a step are different, and so are those below them
  pub record Apart (h p : ℕ) (a b : Subtree A h) : Type 0 where
    pub sum : (n : ℕ) → one n p + (times_under A h n a + times_under A h n b) ≤ 1

  pub ids-apart : (h p : ℕ) (a b : Subtree A h) → Apart h p a b
      → (id_of A h a ≢ id_of A h b) × (id_of A h a ≢ p) × (id_of A h b ≢ p)
  ids-apart h p a b o = (
    (λ e. let q = o.sum (id_of A h a) in let ta = times-top A h (id_of A h a) a in let tb = times-top A h
        (id_of A h a) b in let s = one-self (id_of A h a) in
        let w : one (id_of A h a) (id_of A h b) ≡ 1 = subst (λ z. one (id_of A h a) z ≡ 1) e s in omega arith),
    (λ e. let q = o.sum (id_of A h a) in let ta = times-top A h (id_of A h a) a in let s = one-self (id_of A h a) in
        let w : one (id_of A h a) p ≡ 1 = subst (λ z. one (id_of A h a) z ≡ 1) e s in omega arith),
    (λ e. let q = o.sum (id_of A h b) in let tb = times-top A h (id_of A h b) b in let s = one-self (id_of A h b) in
        let w : one (id_of A h b) p ≡ 1 = subst (λ z. one (id_of A h b) z ≡ 1) e s in omega arith),
  )

  pub below-kept : (g : Address → Address) (h p : ℕ) (a b : Subtree A h) → Apart h p a b
      → ((v : Address) → v.id ≢ id_of A h a → v.id ≢ id_of A h b → v.id ≢ p → g v ≡ v)
      → (v : Address) → 0 < times_below A h v.id a + times_below A h v.id b → g v ≡ v
  below-kept g h p a b o stays v m =
      let q = o.sum v.id in let ta = times-top A h v.id a in let tb = times-top A h v.id b in
      stays v (one-zero v.id (id_of A h a) (omega arith)) (one-zero v.id (id_of A h b) (omega arith))
      (one-zero v.id p (omega arith))

  abbrev pub pair_row : (h p s : ℕ) → Subtree A h → A → Subtree A h → List (Position A)
  pair_row h p s a x b = positions A h a ++ (mark (address_at p s) (Some x) ∷ over ∷ positions A h b)

  split-address_at : (i j p s n k : ℕ) → node_after_split i j p s n (Some (suc n + k)) ≡ address_at j k
  split-address_at i j p s n k = by-more (address_at i (suc n + k)) (address_at p s) (address_at j (suc n + k - suc n)) (suc n + k) n
      (omega arith) ∙ ap (λ z. address_at j z) (let q : suc n + k - suc n ≡ k = omega arith in q)

  pub split-local : (h p s : ℕ) (a : Subtree A h) (x : A) (b : Subtree A h) → Apart h p a b
      → KeepsPositions (moved_by_split (id_of A h a) (id_of A h b) p s (count_at A h a)) (positions A h (join A h a x b))
      (pair_row h p s a x b)
  split-local zero p s a x b o =
      let d = ids-apart 0 p a b o in
      let n : ℕ = length a.1 in
      let g : Address → Address = moved_by_split a.0 b.0 p s n in
      node_positions-split (λ (x : A). x) (λ x. []) g a.0 b.0 p s [] a.1 b.1
      (split-left a.0 b.0 p s n d.1 None) (keep-none g) (each-nothing A g a.1) (each-nothing A g b.1) x (keep-none g)
      (λ k l. split-left a.0 b.0 p s n d.1 (Some k) ∙ by-less (address_at a.0 k) (address_at p s) (address_at b.0 (k - suc n)) k n l)
      (split-left a.0 b.0 p s n d.1 (Some n) ∙ by-equal (address_at a.0 n) (address_at p s) (address_at b.0 (n - suc n)) n n refl)
      (λ k l. split-left a.0 b.0 p s n d.1 (Some (suc n + k)) ∙ split-address_at a.0 b.0 p s n k)
  split-local (suc h) p s a x b o =
      let d = ids-apart (suc h) p a b o in
      let n : ℕ = length a.2 in
      let g : Address → Address = moved_by_split a.0 b.0 p s n in
      let kept = below-kept g (suc h) p a b o (λ v ni nj np. split-stays a.0 b.0 p s n d.1 v ni np) in
      node_positions-split (branch_key A h) (branch_positions A h) g a.0 b.0 p s (positions A h a.1) a.2 b.2
      (split-left a.0 b.0 p s n d.1 None) (positions-same A g h a.1 (λ v m. kept v (omega arith)))
      (entries-same A g h a.2 (λ v m. kept v (omega arith))) (entries-same A g h b.2 (λ v m. kept v (omega arith))) (x, b.1)
      (positions-same A g h b.1 (λ v m. kept v (omega arith)))
      (λ k l. split-left a.0 b.0 p s n d.1 (Some k) ∙ by-less (address_at a.0 k) (address_at p s) (address_at b.0 (k - suc n)) k n l)
      (split-left a.0 b.0 p s n d.1 (Some n) ∙ by-equal (address_at a.0 n) (address_at p s) (address_at b.0 (n - suc n)) n n refl)
      (λ k l. split-left a.0 b.0 p s n d.1 (Some (suc n + k)) ∙ split-address_at a.0 b.0 p s n k)
