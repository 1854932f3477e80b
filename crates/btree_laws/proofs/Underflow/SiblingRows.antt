-- The positions of two adjacent siblings A and B, by rows: B is merged into A, or an item moves between them.
use Rattle.btree_laws.proofs.Common.{◌≡◌, ◌<◌, ◌≤◌, ◌++◌, ◌∷◌, [], ◌∙◌, ◌+◌, ℕ, suc, inl, List, length, Some, None, refl, sym, ap, subst, arith, append_assoc, AllByRecursion, Address, KeepsPositions, IsAt, Position, address_before, mark, over, address_at, positions_from, positions_to}
use Rattle.btree_laws.specs.Focus.Positions.{node_positions}
use Rattle.btree_laws.proofs.Splits.CutPositions.{keep-back, keep-front, fits-none, in-none, node_positions-joined, node_positions-then}
use Rattle.btree_laws.proofs.Places.Lists.{keep-append, keep-mark, keep-more, keep-over, keep-positions_from, keep-to}

module _ {A X : Type 0} (key : X → A) (f : X → List (Position A)) where
  node_positions-one-more : (i : ℕ) (pre : List (Position A)) (xs : List X) (e : X) (ts : List (Position A))
      → node_positions key f i pre (xs ++ e ∷ []) ++ ts
      ≡ mark (address_before i) None ∷
      (pre ++ (positions_to key f i 0 xs ++ (mark (address_at i (length xs))
      (Some (key e)) ∷ over ∷ (f e ++ (mark (address_at i (suc (length xs))) None ∷ ts)))))
  node_positions-one-more i pre xs e ts =
      ap (λ z. z ++ ts) (node_positions-joined key f i pre xs e [])
      ∙ ap (λ z. mark (address_before i) None ∷ z)
      (append_assoc pre (positions_to key f i 0 xs ++ (mark (address_at i (length xs))
      (Some (key e)) ∷ over ∷ (f e ++ (mark (address_at i (suc (length xs))) None ∷ [])))) ts
      ∙ ap (λ z. pre ++ z) (append_assoc (positions_to key f i 0 xs)
      (mark (address_at i (length xs)) (Some (key e)) ∷ over ∷ (f e ++ (mark (address_at i (suc (length xs))) None ∷ []))) ts
      ∙ ap (λ z. positions_to key f i 0 xs ++ (mark (address_at i (length xs)) (Some (key e)) ∷ over ∷ z))
      (append_assoc (f e) (mark (address_at i (suc (length xs))) None ∷ []) ts)))

  keep-from : (g : Address → Address) (i j p : ℕ) (xs : List X)
      → ((k : ℕ) → k ≤ length xs → g (address_at i k) ≡ address_at j (p + k))
      → AllByRecursion (λ x. KeepsPositions g (f x) (f x)) xs → KeepsPositions g (positions_from key f i 0 xs) (positions_from key f j p xs)
  keep-from g i j p xs e c = keep-positions_from key f g i 0 j p xs
      (λ k l. ap (λ z. g (address_at i z)) (let q : 0 + k ≡ k = omega arith in q) ∙ e k l) c

  module _ (g : Address → Address) (i j p s : ℕ) (pre : List (Position A)) (xs : List X) (ys : List X)
      (lead_kept : g (address_before i) ≡ address_before i) (pre_kept : KeepsPositions g pre pre)
      (xs_kept : AllByRecursion (λ x. KeepsPositions g (f x) (f x)) xs)
      (ys_kept : AllByRecursion (λ x. KeepsPositions g (f x) (f x)) ys) where
    -- B is merged into A
    pub node_positions-merge : (e : X) → KeepsPositions g (f e) (f e) → ((k : ℕ) → k ≤ length xs → g (address_at i k) ≡ address_at i k)
        → g (address_at p s) ≡ address_at i (length xs)
        → ((k : ℕ) → k ≤ length ys → g (address_at j k) ≡ address_at i (suc (length xs) + k))
        → IsAt None (g (address_before j)) (f e ++ positions_from key f i (suc (length xs)) ys) 0
        → KeepsPositions g (node_positions key f i pre xs ++ (mark (address_at p s) (Some (key e)) ∷ over ∷ node_positions key f j (f e) ys))
        (node_positions key f i pre (xs ++ e ∷ ys))
    node_positions-merge e ce ei es ej el =
        let n : ℕ = length xs in
        let old : List (Position A) = mark (address_at p s) (Some (key e)) ∷ over ∷ node_positions key f j (f e) ys in
        let new : List (Position A) = mark (address_at i n) (Some (key e)) ∷ over ∷ (f e ++ positions_from key f i (suc n) ys) in
        subst (λ z. KeepsPositions g z (node_positions key f i pre (xs ++ e ∷ ys))) (sym (node_positions-then key f i pre xs old))
        (subst (λ z. KeepsPositions g (mark (address_before i) None ∷ (pre ++ (positions_to key f i 0 xs ++ (mark (address_at i n) None ∷ old))))
        z) (sym (node_positions-joined key f i pre xs e ys))
        (keep-front key f g i pre xs (mark (address_at i n) None ∷ old) new lead_kept
        (λ k l. ei k (omega arith)) pre_kept xs_kept
        (keep-to g (address_at i n) None old new (λ o h. inl (ei n (omega arith), refl, fits-none key f o (Some (key e)) h))
        (keep-mark g (address_at p s) (address_at i n) (Some (key e)) (over ∷ node_positions key f j (f e) ys)
        (over ∷ (f e ++ positions_from key f i (suc n) ys)) es
        (keep-over g (node_positions key f j (f e) ys) (f e ++ positions_from key f i (suc n) ys)
        (keep-to g (address_before j) None (f e ++ positions_from key f j 0 ys) (f e ++ positions_from key f i (suc n) ys)
        (λ o h. in-none key f o (g (address_before j)) (f e ++ positions_from key f i (suc n) ys) 0 h el)
        (keep-append g (f e) (f e) (positions_from key f j 0 ys) (positions_from key f i (suc n) ys) refl ce
        (keep-from g j i (suc n) ys ej ys_kept))))))))

    -- B lends its first item, with the child before it
    pub node_positions-left : (e d : X) → KeepsPositions g (f e) (f e) → KeepsPositions g (f d) (f d)
        → ((k : ℕ) → k ≤ length xs → g (address_at i k) ≡ address_at i k) → g (address_at p s) ≡ address_at i (length xs)
        → g (address_at j 0) ≡ address_at p s → ((k : ℕ) → k ≤ length ys → g (address_at j (1 + k)) ≡ address_at j k)
        → IsAt None (g (address_before j))
        (f e ++ (mark (address_at i (suc (length xs))) None ∷ mark (address_at p s) (Some (key d)) ∷ over ∷ node_positions key f j
        (f d) ys)) 0
        → KeepsPositions g (node_positions key f i pre xs ++ (mark (address_at p s) (Some (key e)) ∷ over ∷ node_positions key f j (f e) (d ∷ ys)))
        (node_positions key f i pre (xs ++ e ∷ []) ++ (mark (address_at p s) (Some (key d)) ∷ over ∷ node_positions key f j (f d) ys))
    node_positions-left e d ce cd ei es e0 ej el =
        let n : ℕ = length xs in
        let old : List (Position A) = mark (address_at p s) (Some (key e)) ∷ over ∷ node_positions key f j (f e) (d ∷ ys) in
        let new : List (Position A) = mark (address_at p s) (Some (key d)) ∷ over ∷ node_positions key f j (f d) ys in
        let mid : List (Position A) = f e ++ (mark (address_at i (suc n)) None ∷ new) in
        subst (λ z. KeepsPositions g z (node_positions key f i pre (xs ++ e ∷ []) ++ new)) (sym (node_positions-then key f i pre xs old))
        (subst (λ z. KeepsPositions g (mark (address_before i) None ∷ (pre ++ (positions_to key f i 0 xs ++ (mark (address_at i n) None ∷ old))))
        z) (sym (node_positions-one-more i pre xs e new))
        (keep-front key f g i pre xs (mark (address_at i n) None ∷ old) (mark (address_at i n) (Some (key e)) ∷ over ∷ mid)
        lead_kept (λ k l. ei k (omega arith)) pre_kept xs_kept
        (keep-to g (address_at i n) None old (mark (address_at i n) (Some (key e)) ∷ over ∷ mid)
        (λ o h. inl (ei n (omega arith), refl, fits-none key f o (Some (key e)) h))
        (keep-mark g (address_at p s) (address_at i n) (Some (key e)) (over ∷ node_positions key f j (f e) (d ∷ ys)) (over ∷ mid) es
        (keep-over g (node_positions key f j (f e) (d ∷ ys)) mid
        (keep-to g (address_before j) None (f e ++ positions_from key f j 0 (d ∷ ys)) mid (λ o h. in-none key f o (g (address_before j)) mid 0 h el)
        (keep-append g (f e) (f e) (positions_from key f j 0 (d ∷ ys)) (mark (address_at i (suc n)) None ∷ new) refl ce
        (keep-more g (address_at i (suc n)) None (positions_from key f j 0 (d ∷ ys)) new
        (keep-mark g (address_at j 0) (address_at p s) (Some (key d)) (over ∷ (f d ++ positions_from key f j 1 ys))
        (over ∷ node_positions key f j (f d) ys) e0
        (keep-over g (f d ++ positions_from key f j 1 ys) (node_positions key f j (f d) ys)
        (keep-more g (address_before j) None (f d ++ positions_from key f j 1 ys) (f d ++ positions_from key f j 0 ys)
        (keep-append g (f d) (f d) (positions_from key f j 1 ys) (positions_from key f j 0 ys) refl cd
        (keep-back key f g j 1 j ys ej ys_kept)))))))))))))

    -- A lends its last item, with the child after it
    pub node_positions-right : (e d : X) → KeepsPositions g (f e) (f e) → KeepsPositions g (f d) (f d)
        → ((k : ℕ) → k < length xs → g (address_at i k) ≡ address_at i k) → g (address_at i (length xs)) ≡ address_at p s
        → g (address_at i (suc (length xs))) ≡ address_at j 0 → g (address_at p s) ≡ address_at j 0
        → ((k : ℕ) → k ≤ length ys → g (address_at j k) ≡ address_at j (1 + k))
        → IsAt None (g (address_before j)) (f d ++ positions_from key f j 1 ys) 0
        → KeepsPositions g (node_positions key f i pre (xs ++ e ∷ []) ++ (mark (address_at p s) (Some (key d)) ∷ over ∷ node_positions key f j (f d) ys))
        (node_positions key f i pre xs ++ (mark (address_at p s) (Some (key e)) ∷ over ∷ node_positions key f j (f e) (d ∷ ys)))
    node_positions-right e d ce cd ei en em es ej el =
        let n : ℕ = length xs in
        let old : List (Position A) = mark (address_at p s) (Some (key d)) ∷ over ∷ node_positions key f j (f d) ys in
        let end : List (Position A) = f d ++ positions_from key f j 1 ys in
        let last : List (Position A) = mark (address_at j 0) (Some (key d)) ∷ over ∷ end in
        let new : List (Position A) = mark (address_at p s) (Some (key e)) ∷ over ∷ node_positions key f j (f e) (d ∷ ys) in
        subst (λ z. KeepsPositions g z (node_positions key f i pre xs ++ new)) (sym (node_positions-one-more i pre xs e old))
        (subst (λ z. KeepsPositions g
        (mark (address_before i) None ∷
        (pre ++ (positions_to key f i 0
        xs ++ (mark (address_at i n) (Some (key e)) ∷ over ∷ (f e ++ (mark (address_at i (suc n)) None ∷ old)))))) z)
        (sym (node_positions-then key f i pre xs new))
        (keep-front key f g i pre xs
        (mark (address_at i n) (Some (key e)) ∷ over ∷ (f e ++ (mark (address_at i (suc n)) None ∷ old)))
        (mark (address_at i n) None ∷ new) lead_kept ei pre_kept xs_kept
        (keep-more g (address_at i n) None
        (mark (address_at i n) (Some (key e)) ∷ over ∷ (f e ++ (mark (address_at i (suc n)) None ∷ old))) new
        (keep-mark g (address_at i n) (address_at p s) (Some (key e)) (over ∷ (f e ++ (mark (address_at i (suc n)) None ∷ old)))
        (over ∷ node_positions key f j (f e) (d ∷ ys)) en
        (keep-over g (f e ++ (mark (address_at i (suc n)) None ∷ old)) (node_positions key f j (f e) (d ∷ ys))
        (keep-more g (address_before j) None (f e ++ (mark (address_at i (suc n)) None ∷ old)) (f e ++ last)
        (keep-append g (f e) (f e) (mark (address_at i (suc n)) None ∷ old) last refl ce
        (keep-to g (address_at i (suc n)) None old last (λ o h. inl (em, refl, fits-none key f o (Some (key d)) h))
        (keep-mark g (address_at p s) (address_at j 0) (Some (key d)) (over ∷ node_positions key f j (f d) ys) (over ∷ end) es
        (keep-over g (node_positions key f j (f d) ys) end
        (keep-to g (address_before j) None (f d ++ positions_from key f j 0 ys) end (λ o h. in-none key f o (g (address_before j)) end 0 h el)
        (keep-append g (f d) (f d) (positions_from key f j 0 ys) (positions_from key f j 1 ys) refl cd
        (keep-from g j j 1 ys ej ys_kept)))))))))))))
