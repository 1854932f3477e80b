-- Addresses in lists of positions, and functions that move them from one list to another and keep their places.
use Rattle.btree_laws.proofs.Common.{◌≡◌, ◌<◌, ◌≤◌, ◌⊎◌, ◌++◌, ◌∷◌, [], ◌∙◌, ◌+◌, ℕ, suc, inl, inr, List, length, Option, Some, None, refl, sym, ap, subst, arith, append_assoc, append-nil, AllByRecursion, Address, total, IsExpected, KeepsPositions, IsAt, Position, mark, over, passed, address_at, positions_from, positions_to}

-- lists of positions
module _ {A : Type 0} where
  pub passed-append : (ts ss : List (Position A)) → passed (ts ++ ss) ≡ passed ts + passed ss
  passed-append [] ss = omega arith
  passed-append (mark a k ∷ ts) ss = passed-append ts ss
  passed-append (over ∷ ts) ss = omega (arith, passed-append ts ss)

  pub in-left : (o : Option A) (a : Address) (ts ss : List (Position A)) (u : ℕ) → IsAt o a ts u → IsAt o a (ts ++ ss) u
  in-left o a [] ss u i = absurd i
  in-left o a (mark b k ∷ ts) ss u (inl i) = inl i
  in-left o a (mark b k ∷ ts) ss u (inr i) = inr (in-left o a ts ss u i)
  in-left o a (over ∷ ts) ss u i = (i.0, i.1, in-left o a ts ss i.0 i.2)

  pub in-right : (o : Option A) (a : Address) (ts ss : List (Position A)) (u v : ℕ) → u ≡ passed ts + v → IsAt o a ss v
      → IsAt o a (ts ++ ss) u
  in-right o a [] ss u v e i = subst (λ z. IsAt o a ss z) (let q : v ≡ u = omega arith in q) i
  in-right o a (mark b k ∷ ts) ss u v e i = inr (in-right o a ts ss u v e i)
  in-right o a (over ∷ ts) ss u v e i = (
    passed ts + v,
    (let q : u ≡ suc (passed ts + v) = omega arith in q),
    in-right o a ts ss (passed ts + v) v refl i,
  )

  pub record Later (o : Option A) (a : Address) (ts ss : List (Position A)) (u : ℕ) : Type 0 where
    pub rest : ℕ
    pub is : u ≡ passed ts + rest
    pub there : IsAt o a ss rest

  -- an address among two lists of positions is in the first, or later in the second
  pub in-cases : (o : Option A) (a : Address) (ts ss : List (Position A)) (u : ℕ) → IsAt o a (ts ++ ss) u
      → IsAt o a ts u ⊎ Later o a ts ss u
  in-cases o a [] ss u i = inr (record { rest = u; is = omega arith; there = i })
  in-cases o a (mark b k ∷ ts) ss u (inl i) = inl (inl i)
  in-cases o a (mark b k ∷ ts) ss u (inr i) =
      elim (in-cases o a ts ss u i) [
        | inl q ↦ inl (inr q)
        | inr q ↦ inr
            (record { rest = q.rest; is = q.is; there = q.there })
      ]
  in-cases o a (over ∷ ts) ss u i =
      elim (in-cases o a ts ss i.0 i.2) [
        | inl q ↦ inl (i.0, i.1, q)
        | inr q ↦ inr (record { rest = q.rest; is = (let e = i.1 in let w = q.is in omega arith); there = q.there })
      ]

  -- how such a function is composed from parts
  pub keep-append : (g : Address → Address) (ts ss ts' ss' : List (Position A)) → passed ts ≡ passed ss → KeepsPositions g ts ss
      → KeepsPositions g ts' ss' → KeepsPositions g (ts ++ ts') (ss ++ ss')
  keep-append g ts ss ts' ss' e c d o a u i =
      elim (in-cases o a ts ts' u i) [
        | inl q ↦ in-left o (g a) ss ss' u (c o a u q)
        | inr q ↦ in-right o (g a) ss ss' u q.rest (q.is ∙ ap (λ z. z + q.rest) e) (d o a q.rest q.there)
      ]

  pub keep-over : (g : Address → Address) (ts ss : List (Position A)) → KeepsPositions g ts ss → KeepsPositions g (over ∷ ts) (over ∷ ss)
  keep-over g ts ss c o a u i = (i.0, i.1, c o a i.0 i.2)

  -- an address that is no image of the function
  pub keep-more : (g : Address → Address) (b : Address) (k : Option A) (ts ss : List (Position A)) → KeepsPositions g ts ss
      → KeepsPositions g ts (mark b k ∷ ss)
  keep-more g b k ts ss c o a u i = inr (c o a u i)

  -- an address that moves elsewhere
  pub keep-to : (g : Address → Address) (b : Address) (k : Option A) (ts ss : List (Position A))
      → ((o : Option A) → IsExpected o k → IsAt o (g b) ss 0) → KeepsPositions g ts ss → KeepsPositions g (mark b k ∷ ts) ss
  keep-to g b k ts ss here c o a u (inl i) = subst (λ z. IsAt o (g z) ss u) (sym i.0)
      (subst (λ z. IsAt o (g b) ss z) (sym i.1) (here o i.2))
  keep-to g b k ts ss here c o a u (inr i) = c o a u i

  -- an address that stays in its row
  pub keep-mark : (g : Address → Address) (b d : Address) (k : Option A) (ts ss : List (Position A)) → g b ≡ d
      → KeepsPositions g ts ss → KeepsPositions g (mark b k ∷ ts) (mark d k ∷ ss)
  keep-mark g b d k ts ss e c = keep-to g b k ts (mark d k ∷ ss) (λ o f. inl (e, refl, f)) (keep-more g d k ts ss c)

  pub keep-none : (g : Address → Address) → KeepsPositions {A = A} g [] []
  keep-none g o a u i = absurd i

  -- rows
  module _ {X : Type 0} (key : X → A) (f : X → List (Position A)) where
    pub positions_from-append : (i o : ℕ) (xs ys : List X)
        → positions_from key f i o (xs ++ ys) ≡ positions_to key f i o xs ++ positions_from key f i (o + length xs) ys
    positions_from-append i o [] ys = ap (λ z. positions_from key f i z ys) (let q : o ≡ o + 0 = omega arith in q)
    positions_from-append i o (x ∷ xs) ys =
        ap (λ z. mark (address_at i o) (Some (key x)) ∷ over ∷ z)
        (ap (λ z. f x ++ z) (positions_from-append i (suc o) xs ys ∙ ap (λ z. positions_to key f i (suc o) xs ++ positions_from key f i z ys)
        (let q : suc o + length xs ≡ o + suc (length xs) = omega arith in q))
        ∙ sym (append_assoc (f x) (positions_to key f i (suc o) xs) (positions_from key f i (o + suc (length xs)) ys)))

    pub positions_from-end : (i o : ℕ) (xs : List X)
        → positions_from key f i o xs ≡ positions_to key f i o xs ++ (mark (address_at i (o + length xs)) None ∷ [])
    positions_from-end i o xs = ap (λ z. positions_from key f i o z) (sym (append-nil xs)) ∙ positions_from-append i o xs []

    pub passed-positions_from : (i o : ℕ) (xs : List X) → passed (positions_from key f i o xs) ≡ total (λ x. suc (passed (f x))) xs
    passed-positions_from i o [] = refl
    passed-positions_from i o (x ∷ xs) = omega (arith, passed-append (f x) (positions_from key f i (suc o) xs), passed-positions_from i (suc o) xs)

    pub passed-positions_to : (i o : ℕ) (xs : List X) → passed (positions_to key f i o xs) ≡ total (λ x. suc (passed (f x))) xs
    passed-positions_to i o [] = refl
    passed-positions_to i o (x ∷ xs) = omega (
      arith,
      passed-append (f x) (positions_to key f i (suc o) xs),
      passed-positions_to i
          (suc o) xs,
    )

    -- a row whose offsets change
    pub keep-positions_from : (g : Address → Address) (i o j p : ℕ) (xs : List X)
        → ((k : ℕ) → k ≤ length xs → g (address_at i (o + k)) ≡ address_at j (p + k))
        → AllByRecursion (λ x. KeepsPositions g (f x) (f x)) xs → KeepsPositions g (positions_from key f i o xs) (positions_from key f j p xs)
    keep-positions_from g i o j p [] e c =
        keep-mark g (address_at i o) (address_at j p) None [] []
        (let q = e 0 (omega arith) in let s : o + 0 ≡ o = omega arith in let r : p + 0 ≡ p = omega arith in
        ap (λ z. g (address_at i z)) (sym s) ∙ (q ∙ ap (λ z. address_at j z) r)) (keep-none g)
    keep-positions_from g i o j p (x ∷ xs) e c =
        keep-mark g (address_at i o) (address_at j p) (Some (key x)) (over ∷ (f x ++ positions_from key f i (suc o) xs))
        (over ∷ (f x ++ positions_from key f j (suc p) xs))
        (let q = e 0 (omega arith) in let s : o + 0 ≡ o = omega arith in let r : p + 0 ≡ p = omega arith in
        ap (λ z. g (address_at i z)) (sym s) ∙ (q ∙ ap (λ z. address_at j z) r))
        (keep-over g (f x ++ positions_from key f i (suc o) xs) (f x ++ positions_from key f j (suc p) xs)
        (keep-append g (f x) (f x) (positions_from key f i (suc o) xs) (positions_from key f j (suc p) xs) refl c.0
        (keep-positions_from g i (suc o) j (suc p) xs
        (λ k l. let q = e (suc k) (omega arith) in let s : o + suc k ≡ suc o + k = omega arith in
        let r : p + suc k ≡ suc p + k = omega arith in
        ap (λ z. g (address_at i z)) (sym s) ∙ (q ∙ ap (λ z. address_at j z) r)) c.1)))

    pub keep-positions_to : (g : Address → Address) (i o j p : ℕ) (xs : List X)
        → ((k : ℕ) → k < length xs → g (address_at i (o + k)) ≡ address_at j (p + k))
        → AllByRecursion (λ x. KeepsPositions g (f x) (f x)) xs → KeepsPositions g (positions_to key f i o xs) (positions_to key f j p xs)
    keep-positions_to g i o j p [] e c = keep-none g
    keep-positions_to g i o j p (x ∷ xs) e c =
        keep-mark g (address_at i o) (address_at j p) (Some (key x)) (over ∷ (f x ++ positions_to key f i (suc o) xs))
        (over ∷ (f x ++ positions_to key f j (suc p) xs))
        (let q = e 0 (omega arith) in let s : o + 0 ≡ o = omega arith in let r : p + 0 ≡ p = omega arith in
        ap (λ z. g (address_at i z)) (sym s) ∙ (q ∙ ap (λ z. address_at j z) r))
        (keep-over g (f x ++ positions_to key f i (suc o) xs) (f x ++ positions_to key f j (suc p) xs)
        (keep-append g (f x) (f x) (positions_to key f i (suc o) xs) (positions_to key f j (suc p) xs) refl c.0
        (keep-positions_to g i (suc o) j (suc p) xs
        (λ k l. let q = e (suc k) (omega arith) in let s : o + suc k ≡ suc o + k = omega arith in
        let r : p + suc k ≡ suc p + k = omega arith in
        ap (λ z. g (address_at i z)) (sym s) ∙ (q ∙ ap (λ z. address_at j z) r)) c.1)))
