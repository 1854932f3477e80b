-- The positions of a node that is cut in two.
use Rattle.btree_laws.proofs.Common.{◌≡◌, ◌<◌, ◌≤◌, ◌++◌, ◌∷◌, [], ◌∙◌, ◌+◌, ℕ, suc, inl, List, length, Option, Some, None, refl, sym, ap, subst, arith, append_assoc, append-nil, AllByRecursion, Address, IsExpected, KeepsPositions, IsAt, Position, address_before, mark, over, address_at, positions_from, positions_to}
use Rattle.btree_laws.specs.Focus.Positions.{node_positions}
use Rattle.btree_laws.proofs.Places.Lists.{keep-append, keep-mark, keep-more, keep-over, keep-positions_from, keep-positions_to, positions_from-append}

-- a node in two parts A and B, by rows: an entry is an item with the child after it, or an item alone
module _ {A X : Type 0} (key : X → A) (f : X → List (Position A)) where
  pub fits-none : (o k : Option A) → IsExpected o None → IsExpected o k
  fits-none None k h = tt
  fits-none (Some x) k h = absurd (cc)

  pub in-none : (o : Option A) (a : Address) (ts : List (Position A)) (u : ℕ) → IsExpected o None → IsAt None a ts u → IsAt o a ts u
  in-none None a ts u h i = i
  in-none (Some x) a ts u h i = absurd (cc)

  positions_from-from : (i : ℕ) (xs ys : List X)
      → positions_from key f i 0 (xs ++ ys) ≡ positions_to key f i 0 xs ++ positions_from key f i (length xs) ys
  positions_from-from i xs ys = positions_from-append key f i 0 xs ys ∙ ap (λ z. positions_to key f i 0 xs ++ positions_from key f i z ys)
      (let q : 0 + length xs ≡ length xs = omega arith in q)

  pub positions_from-first : (i o : ℕ) (xs : List X) → IsAt None (address_at i o) (positions_from key f i o xs) 0
  positions_from-first i o [] = inl (refl, refl, tt)
  positions_from-first i o (x ∷ xs) = inl (refl, refl, tt)

  -- a row, followed by others
  pub node_positions-then : (i : ℕ) (pre : List (Position A)) (xs : List X) (ts : List (Position A)) → node_positions key f i pre xs ++ ts
      ≡ mark (address_before i) None ∷ (pre ++ (positions_to key f i 0 xs ++ (mark (address_at i (length xs)) None ∷ ts)))
  node_positions-then i pre xs ts =
      ap (λ z. mark (address_before i) None ∷ z)
      (append_assoc pre (positions_from key f i 0 xs) ts
      ∙ ap (λ z. pre ++ z) (ap (λ z. z ++ ts) (ap (λ z. positions_from key f i 0 z) (sym (append-nil xs)) ∙ positions_from-from i xs [])
      ∙ append_assoc (positions_to key f i 0 xs) (mark (address_at i (length xs)) None ∷ []) ts))

  pub node_positions-joined : (i : ℕ) (pre : List (Position A)) (xs : List X) (e : X) (ys : List X) → node_positions key f i pre (xs ++ e ∷ ys)
      ≡ mark (address_before i) None ∷
      (pre ++ (positions_to key f i 0 xs ++ (mark (address_at i (length xs))
      (Some (key e)) ∷ over ∷ (f e ++ positions_from key f i (suc (length xs)) ys))))
  node_positions-joined i pre xs e ys = ap (λ z. mark (address_before i) None ∷ (pre ++ z)) (positions_from-from i xs (e ∷ ys))

  pub keep-back : (g : Address → Address) (i o j : ℕ) (xs : List X)
      → ((k : ℕ) → k ≤ length xs → g (address_at i (o + k)) ≡ address_at j k)
      → AllByRecursion (λ x. KeepsPositions g (f x) (f x)) xs → KeepsPositions g (positions_from key f i o xs) (positions_from key f j 0 xs)
  keep-back g i o j xs e c = keep-positions_from key f g i o j 0 xs
      (λ k l. e k l ∙ ap (λ z. address_at j z) (let q : k ≡ 0 + k = omega arith in q)) c

  pub keep-start : (g : Address → Address) (i : ℕ) (xs : List X) → ((k : ℕ) → k < length xs → g (address_at i k) ≡ address_at i k)
      → AllByRecursion (λ x. KeepsPositions g (f x) (f x)) xs → KeepsPositions g (positions_to key f i 0 xs) (positions_to key f i 0 xs)
  keep-start g i xs e c =
      keep-positions_to key f g i 0 i 0 xs (λ k l. ap (λ z. g (address_at i z)) (let q : 0 + k ≡ k = omega arith in q)
      ∙ (e k l ∙ ap (λ z. address_at i z) (let q : k ≡ 0 + k = omega arith in q))) c

  -- what both rows keep at the front
  pub keep-front : (g : Address → Address) (i : ℕ) (pre : List (Position A)) (xs : List X) (ts ss : List (Position A))
      → g (address_before i) ≡ address_before i → ((k : ℕ) → k < length xs → g (address_at i k) ≡ address_at i k)
      → KeepsPositions g pre pre → AllByRecursion (λ x. KeepsPositions g (f x) (f x)) xs → KeepsPositions g ts ss
      → KeepsPositions g (mark (address_before i) None ∷ (pre ++ (positions_to key f i 0 xs ++ ts)))
      (mark (address_before i) None ∷ (pre ++ (positions_to key f i 0 xs ++ ss)))
  keep-front g i pre xs ts ss el ek cp cx ct =
      keep-mark g (address_before i) (address_before i) None (pre ++ (positions_to key f i 0 xs ++ ts))
      (pre ++ (positions_to key f i 0 xs ++ ss)) el
      (keep-append g pre pre (positions_to key f i 0 xs ++ ts) (positions_to key f i 0 xs ++ ss) refl cp
      (keep-append g (positions_to key f i 0 xs) (positions_to key f i 0 xs) ts ss refl (keep-start g i xs ek cx) ct))

  module _ (g : Address → Address) (i j p s : ℕ) (pre : List (Position A)) (xs : List X) (ys : List X)
      (lead_kept : g (address_before i) ≡ address_before i) (pre_kept : KeepsPositions g pre pre)
      (xs_kept : AllByRecursion (λ x. KeepsPositions g (f x) (f x)) xs)
      (ys_kept : AllByRecursion (λ x. KeepsPositions g (f x) (f x)) ys) where
    -- A is cut before e, and its right part is B
    pub node_positions-split : (e : X) → KeepsPositions g (f e) (f e) → ((k : ℕ) → k < length xs → g (address_at i k) ≡ address_at i k)
        → g (address_at i (length xs)) ≡ address_at p s
        → ((k : ℕ) → k ≤ length ys → g (address_at i (suc (length xs) + k)) ≡ address_at j k)
        → KeepsPositions g (node_positions key f i pre (xs ++ e ∷ ys))
        (node_positions key f i pre xs ++ (mark (address_at p s) (Some (key e)) ∷ over ∷ node_positions key f j (f e) ys))
    node_positions-split e ce ei es ej =
        let n : ℕ = length xs in
        let new : List (Position A) = mark (address_at p s) (Some (key e)) ∷ over ∷ node_positions key f j (f e) ys in
        let old : List (Position A) = mark (address_at i n) (Some (key e)) ∷ over ∷ (f e ++ positions_from key f i (suc n) ys) in
        subst (λ z. KeepsPositions g (node_positions key f i pre (xs ++ e ∷ ys)) z) (sym (node_positions-then i pre xs new))
        (subst (λ z. KeepsPositions g z
        (mark (address_before i) None ∷ (pre ++ (positions_to key f i 0 xs ++ (mark (address_at i n) None ∷ new)))))
        (sym (node_positions-joined i pre xs e ys))
        (keep-front g i pre xs old (mark (address_at i n) None ∷ new) lead_kept ei pre_kept xs_kept
        (keep-more g (address_at i n) None old new
        (keep-mark g (address_at i n) (address_at p s) (Some (key e)) (over ∷ (f e ++ positions_from key f i (suc n) ys))
        (over ∷ node_positions key f j (f e) ys) es
        (keep-over g (f e ++ positions_from key f i (suc n) ys) (node_positions key f j (f e) ys)
        (keep-more g (address_before j) None (f e ++ positions_from key f i (suc n) ys) (f e ++ positions_from key f j 0 ys)
        (keep-append g (f e) (f e) (positions_from key f i (suc n) ys) (positions_from key f j 0 ys) refl ce
        (keep-back g i (suc n) j ys ej ys_kept))))))))
