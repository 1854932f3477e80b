-- The addresses of a list of positions that are kept, in order: the index of each, and how many items are passed before
-- it.
use Rattle.btree_laws.proofs.Common.{◌≡◌, ◌<◌, ◌≤◌, ◌++◌, ◌∷◌, [], ◌∙◌, ◌+◌, ℕ, zero, suc, inl, inr, Bool, true, false, List, length, Option, Some, refl, sym, ap, subst, arith, slice_get, Address, IsExpected, IsAt, Position, mark, over, passed}

abbrev pub put : Bool → Address → List Address → List Address
put true a list = a ∷ list
put false a list = list

abbrev pub skip : Bool → (ℕ → ℕ) → ℕ → ℕ
skip true f zero = 0
skip true f (suc i) = f i
skip false f i = f i

-- 0 or 1 addresses are kept since the last item; one more if this one is kept, and then none was before
abbrev pub Counts : Bool → ℕ → ℕ → Type 0
Counts true n m = (n ≡ 0) × (m ≡ 1)
Counts false n m = n ≡ m

pub put-append : (c : Bool) (a : Address) (list more : List Address) → put c a (list ++ more) ≡ put c a list ++ more
put-append true a list more = refl
put-append false a list more = refl

module _ {A : Type 0} (keep : Address → Option A → Bool) where
  abbrev pub kept : List (Position A) → List Address
  kept [] = []
  kept (mark a item ∷ ts) = put (keep a item) a (kept ts)
  kept (over ∷ ts) = kept ts

  -- how many items are passed before the kept address at an index
  abbrev pub passed_to : List (Position A) → ℕ → ℕ
  passed_to [] i = 0
  passed_to (mark a item ∷ ts) i = skip (keep a item) (passed_to ts) i
  passed_to (over ∷ ts) i = suc (passed_to ts i)

  pub kept-append : (ts ss : List (Position A)) → kept (ts ++ ss) ≡ kept ts ++ kept ss
  kept-append [] ss = refl
  kept-append (mark a item ∷ ts) ss =
      ap (λ z. put (keep a item) a z) (kept-append ts ss) ∙ put-append (keep a item) a (kept ts) (kept ss)
  kept-append (over ∷ ts) ss = kept-append ts ss

  -- a kept address comes after `place` items, at an item that makes it kept
  pub record KeptAt (ts : List (Position A)) (a : Address) (place : ℕ) : Type 0 where
    pub item : Option A
    pub keeps : keep a item ≡ true
    pub there : (expected : Option A) → IsExpected expected item → IsAt expected a ts place

  at-mark : (b : Address) (item : Option A) (ts : List (Position A))
      → ((i : ℕ) (a : Address) → slice_get (kept ts) i ≡ Some a → KeptAt ts a (passed_to ts i))
      → (c : Bool) → keep b item ≡ c → (i : ℕ) (a : Address) → slice_get (put c b (kept ts)) i ≡ Some a
      → KeptAt (mark b item ∷ ts) a (skip c (passed_to ts) i)
  at-mark b item ts rest true e zero a at =
      let same : b ≡ a = cc in
      record {
        item = item;
        keeps = subst (λ z. keep z item ≡ true) same e;
        there = λ expected m. inl (sym same, refl, m);
      }
  at-mark b item ts rest true e (suc i) a at =
      let r = rest i a at in
      record { item = r.item; keeps = r.keeps; there = λ expected m. inr (r.there expected m) }
  at-mark b item ts rest false e i a at =
      let r = rest i a at in
      record { item = r.item; keeps = r.keeps; there = λ expected m. inr (r.there expected m) }

  pub kept-at : (ts : List (Position A)) (i : ℕ) (a : Address) → slice_get (kept ts) i ≡ Some a → KeptAt ts a (passed_to ts i)
  kept-at [] i a at = absurd (cc)
  kept-at (mark b item ∷ ts) i a at = at-mark b item ts (kept-at ts) (keep b item) refl i a at
  kept-at (over ∷ ts) i a at =
      let r = kept-at ts i a at in
      record {
        item = r.item;
        keeps = r.keeps;
        there = λ expected m. (passed_to ts i, refl, r.there expected m);
      }

  -- and the converse: a kept address has an index
  pub record IndexOf (ts : List (Position A)) (a : Address) (place : ℕ) : Type 0 where
    pub index : ℕ
    pub at : slice_get (kept ts) index ≡ Some a
    pub is : passed_to ts index ≡ place

  -- the same for a mark for which it is known whether it is kept
  record MarkIndex (c : Bool) (b : Address) (ts : List (Position A)) (a : Address) (place : ℕ) : Type 0 where
    pub index : ℕ
    pub at : slice_get (put c b (kept ts)) index ≡ Some a
    pub is : skip c (passed_to ts) index ≡ place

  mark-later : (c : Bool) (b : Address) (ts : List (Position A)) (a : Address) (place : ℕ) → IndexOf ts a place → MarkIndex c b ts a place
  mark-later true b ts a place r = record { index = suc r.index; at = r.at; is = r.is }
  mark-later false b ts a place r = record { index = r.index; at = r.at; is = r.is }

  mark-here : (c : Bool) (b : Address) (ts : List (Position A)) (a : Address) (place : ℕ) → c ≡ true → a ≡ b → place ≡ 0 → MarkIndex c b ts a place
  mark-here true b ts a place k e z = record { index = 0; at = ap (λ w. Some w) (sym e); is = sym z }
  mark-here false b ts a place k e z = absurd (cc)

  pub kept-of : (expected : Option A) (a : Address) (ts : List (Position A)) (place : ℕ)
      → ((item : Option A) → IsExpected expected item → keep a item ≡ true) → IsAt expected a ts place → IndexOf ts a place
  kept-of expected a [] place k i = absurd i
  kept-of expected a (mark b item ∷ ts) place k (inl i) =
      let r = mark-here (keep b item) b ts a place (subst (λ z. keep z item ≡ true) i.0 (k item i.2)) i.0 i.1 in
      record { index = r.index; at = r.at; is = r.is }
  kept-of expected a (mark b item ∷ ts) place k (inr i) =
      let r = mark-later (keep b item) b ts a place (kept-of expected a ts place k i) in
      record { index = r.index; at = r.at; is = r.is }
  kept-of expected a (over ∷ ts) place k i =
      let r = kept-of expected a ts i.0 k i.2 in
      record { index = r.index; at = r.at; is = ap suc r.is ∙ sym i.1 }

  -- at a later index at least as many items are passed
  skip-rise : (c : Bool) (f : ℕ → ℕ) → ((i j : ℕ) → i ≤ j → f i ≤ f j) → (i j : ℕ) → i ≤ j → skip c f i ≤ skip c f j
  skip-rise true f r zero j l = omega arith
  skip-rise true f r (suc i) zero l = absurd (omega arith)
  skip-rise true f r (suc i) (suc j) l = r i j (omega arith)
  skip-rise false f r i j l = r i j l

  pub passed-rise : (ts : List (Position A)) (i j : ℕ) → i ≤ j → passed_to ts i ≤ passed_to ts j
  passed-rise [] i j l = omega arith
  passed-rise (mark a item ∷ ts) i j l = skip-rise (keep a item) (passed_to ts) (passed-rise ts) i j l
  passed-rise (over ∷ ts) i j l = let r = passed-rise ts i j l in omega arith

  -- between two items one address is kept: n are kept since the last item at the start of the list, and m at its end
  abbrev pub Strung : ℕ → List (Position A) → ℕ → Type 0
  Strung n [] m = n ≡ m
  Strung n (mark a item ∷ ts) m = (k : ℕ) × Counts (keep a item) n k × Strung k ts m
  Strung n (over ∷ ts) m = (n ≡ 1) × Strung 0 ts m

  pub strung-append : (n k m : ℕ) (ts ss : List (Position A)) → Strung n ts k → Strung k ss m → Strung n (ts ++ ss) m
  strung-append n k m [] ss s t = subst (λ z. Strung z ss m) (sym s) t
  strung-append n k m (mark a item ∷ ts) ss s t = (s.0, s.1, strung-append s.0 k m ts ss s.2 t)
  strung-append n k m (over ∷ ts) ss s t = (s.0, strung-append 0 k m ts ss s.1 t)

  -- then the index of an address is the number of items passed before it
  count-index : (c : Bool) (b : Address) (ts : List (Position A)) (n k : ℕ) → Counts c n k
      → ((i : ℕ) → i < length (kept ts) → passed_to ts i ≡ k + i)
      → (i : ℕ) → i < length (put c b (kept ts)) → skip c (passed_to ts) i ≡ n + i
  count-index true b ts n k s r zero l = let e = s.0 in omega arith
  count-index true b ts n k s r (suc i) l = let e = s.0 in let f = s.1 in let q = r i (omega arith) in omega arith
  count-index false b ts n k s r i l = let q = r i l in omega arith

  pub strung-index : (n m : ℕ) (ts : List (Position A)) → Strung n ts m → (i : ℕ) → i < length (kept ts) → passed_to ts i ≡ n + i
  strung-index n m [] s i l = absurd (omega arith)
  strung-index n m (mark a item ∷ ts) s i l = count-index (keep a item) a ts n s.0 s.1 (strung-index s.0 m ts s.2) i l
  strung-index n m (over ∷ ts) s i l = let q = strung-index 0 m ts s.1 i l in let e = s.0 in omega arith

  count-length : (c : Bool) (b : Address) (list : List Address) (n k m p : ℕ) → Counts c n k → length list + k ≡ p + m
      → length (put c b list) + n ≡ p + m
  count-length true b list n k m p s e = let e0 = s.0 in let e1 = s.1 in omega arith
  count-length false b list n k m p s e = omega arith

  pub strung-length : (n m : ℕ) (ts : List (Position A)) → Strung n ts m → length (kept ts) + n ≡ passed ts + m
  strung-length n m [] s = omega arith
  strung-length n m (mark a item ∷ ts) s =
      count-length (keep a item) a (kept ts) n s.0 m (passed ts) s.1 (strung-length s.0 m ts s.2)
  strung-length n m (over ∷ ts) s = let e = s.0 in let q = strung-length 0 m ts s.1 in omega arith
