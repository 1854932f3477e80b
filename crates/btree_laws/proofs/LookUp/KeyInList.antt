-- Where a key is, or would be, in a list whose keys ascend: the list in parts.
use Rattle.btree_laws.proofs.Common.{◌≡◌, ◌++◌, ◌∷◌, [], ◌∙◌, ◌+◌, ℕ, zero, suc, List, length, Some, None, Err, refl, sym, ap, subst, arith, IsTotalOrder, AllByRecursion, IsStrictlySortedBy, Ordering, Equal, Greater, Less, Cuts, Ascends, place_of}
use Rattle.std.proofs.Common.{cond, Result, Ok}
use Rattle.std.proofs.lemmas.List.Sums.{sum_by-cons}
use Rattle.std.specs.Map.{keys_of}
use Rattle.std.specs.Ordering.{is_lt}
use Rattle.btree_item.proofs.KeyLemmas.{before_below, before_equal}
use Rattle.btree_item.specs.Pairs.{before, found}
use Rattle.btree_laws.proofs.Paths.Frames.{AllByRecursion-left, AllByRecursion-right}

module _ {K V : Type 0} (cmp : K → K → Ordering) where
  -- the keys ascend, as a property of the pairs
  abbrev pub Rises : List (K × V) → Type 0
  Rises [] = Unit {0}
  Rises (x ∷ xs) = AllByRecursion (λ y. cmp x.0 y.0 ≡ Less) xs × Rises xs

  keys-below : (k : K) (xs : List (K × V)) → AllByRecursion (λ y. cmp k y ≡ Less) (keys_of xs)
      → AllByRecursion (λ y. cmp k y.0 ≡ Less) xs
  keys-below k [] a = tt
  keys-below k (x ∷ xs) a = (a.0, keys-below k xs a.1)

  below-keys : (k : K) (xs : List (K × V)) → AllByRecursion (λ y. cmp k y.0 ≡ Less) xs
      → AllByRecursion (λ y. cmp k y ≡ Less) (keys_of xs)
  below-keys k [] a = tt
  below-keys k (x ∷ xs) a = (a.0, below-keys k xs a.1)

  pub rises : (xs : List (K × V)) → Ascends cmp xs → Rises xs
  unfolding IsStrictlySortedBy
  rises [] up = tt
  rises (x ∷ xs) up = (keys-below x.0 xs up.0, rises xs up.1)

  pub ascends : (xs : List (K × V)) → Rises xs → Ascends cmp xs
  unfolding IsStrictlySortedBy
  ascends [] up = tt
  ascends (x ∷ xs) up = (below-keys x.0 xs up.0, ascends xs up.1)

  -- the front of an ascending list ascends
  pub rises-left : (xs ys : List (K × V)) → Rises (xs ++ ys) → Rises xs
  rises-left [] ys up = tt
  rises-left (x ∷ xs) ys up = (AllByRecursion-left (λ y. cmp x.0 y.0 ≡ Less) xs ys up.0, rises-left xs ys up.1)

  -- the back of an ascending list ascends
  pub rises-right : (xs ys : List (K × V)) → Rises (xs ++ ys) → Rises ys
  rises-right [] ys up = up
  rises-right (x ∷ xs) ys up = rises-right xs ys up.1

less-one : (o : Ordering) → o ≡ Less → cond (is_lt o) 1 0 ≡ suc zero
less-one o e = rw e refl

greater-none : (o : Ordering) → o ≡ Greater → cond (is_lt o) 1 0 ≡ zero
greater-none o e = rw e refl

equal-none : (o : Ordering) → o ≡ Equal → cond (is_lt o) 1 0 ≡ zero
equal-none o e = rw e refl

module _ {K : Type 0} {cmp : K → K → Ordering} (laws : IsTotalOrder cmp) where
  pub reversed : (x y : K) → cmp x y ≡ Less → cmp y x ≡ Greater
  reversed x y e = let r = laws.antisymm y x in rw e at r

  -- if one key is greater than another, the other is less than it
  pub reversed-back : (x y : K) → cmp x y ≡ Greater → cmp y x ≡ Less
  reversed-back x y e = let r = laws.antisymm y x in rw e at r

module _ {K Q V : Type 0} (cmp : K → Q → Ordering) (k : Q) where
  -- how a pair compares with the key
  abbrev pub side : K × V → Ordering
  side x = cmp x.0 k

  abbrev pub AreBelow : List (K × V) → Type 0
  AreBelow xs = AllByRecursion (λ x. side x ≡ Less) xs

  abbrev pub AreAbove : List (K × V) → Type 0
  AreAbove xs = AllByRecursion (λ x. side x ≡ Greater) xs

  -- Ok: the pairs before the one with the key, and those after it; Err: the pairs below the key, and those above
  abbrev pub IsSearched : List (K × V) → Result ℕ ℕ → Type 0
  IsSearched xs (Ok i) =
      (front : List (K × V)) × (x : K × V) × (back : List (K × V)) × (xs ≡ front ++ x ∷ back) × (length front ≡ i)
      × AreBelow front × (side x ≡ Equal) × AreAbove back
  IsSearched xs (Err i) = (front : List (K × V)) × (back : List (K × V)) × (xs ≡ front ++ back) × (length front ≡ i)
      × AreBelow front × AreAbove back

  before-cons : (x : K × V) (xs : List (K × V)) → before cmp k (x ∷ xs) ≡ cond (is_lt (side x)) 1 0 + before cmp k xs
  before-cons x xs = sum_by-cons (λ y. cond (is_lt (side y)) 1 0) x xs

  before-low : (front ys : List (K × V)) → AreBelow front → before cmp k (front ++ ys) ≡ length front + before cmp k ys
  before-low [] ys low = omega arith
  before-low (x ∷ front) ys low =
      let c = before-cons x (front ++ ys) in
      let l = less-one (side x) low.0 in
      let r = before-low front ys low.1 in
      omega arith

  before-high : (ys : List (K × V)) → AreAbove ys → before cmp k ys ≡ 0
  before-high [] high = refl
  before-high (y ∷ ys) high =
      let c = before-cons y ys in
      let l = greater-none (side y) high.0 in
      let r = before-high ys high.1 in
      omega arith

  before-here : (x : K × V) (ys : List (K × V)) → side x ≡ Equal → AreAbove ys → before cmp k (x ∷ ys) ≡ 0
  before-here x ys same high =
      let c = before-cons x ys in
      let l = equal-none (side x) same in
      let r = before-high ys high in
      omega arith

  found-high : (ys : List (K × V)) → AreAbove ys → found cmp k ys ≡ None
  found-high [] high = refl
  found-high (y ∷ ys) high = rw high.0 (found-high ys high.1)

  found-low : (front ys : List (K × V)) → AreBelow front → found cmp k (front ++ ys) ≡ found cmp k ys
  found-low [] ys low = refl
  found-low (x ∷ front) ys low = rw low.0 (found-low front ys low.1)

  -- a list in two parts around the pair with the key gives its place and the pair
  pub place-hit : (xs : List (K × V)) (i : ℕ) (s : IsSearched xs (Ok i))
      → (place_of cmp k xs ≡ Ok i) × (found cmp k xs ≡ Some s.1)
  place-hit xs i s =
      let f : found cmp k (s.1 ∷ s.2) ≡ Some s.1 = rw s.6 refl in
      let a : found cmp k xs ≡ Some s.1 = ap (found cmp k) s.3 ∙ (found-low s.0 (s.1 ∷ s.2) s.5 ∙ f) in
      let b1 = ap (before cmp k) s.3 in
      let b2 = before-low s.0 (s.1 ∷ s.2) s.5 in
      let b3 = before-here s.1 s.2 s.6 s.7 in
      let l = s.4 in
      let b : before cmp k xs ≡ i = omega arith in
      (rw (a, b) refl, a)

  pub place-miss : (xs : List (K × V)) (i : ℕ) → IsSearched xs (Err i)
      → (place_of cmp k xs ≡ Err i) × (found cmp k xs ≡ None)
  place-miss xs i s =
      let a : found cmp k xs ≡ None = ap (found cmp k) s.2 ∙ (found-low s.0 s.1 s.4 ∙ found-high s.1 s.5) in
      let b1 = ap (before cmp k) s.2 in
      let b2 = before-low s.0 s.1 s.4 in
      let b3 = before-high s.1 s.5 in
      let l = s.3 in
      let b : before cmp k xs ≡ i = omega arith in
      (rw (a, b) refl, a)

  pub searched-place : (xs : List (K × V)) (r : Result ℕ ℕ) → IsSearched xs r → place_of cmp k xs ≡ r
  searched-place xs (Ok i) s = (place-hit xs i s).0
  searched-place xs (Err i) s = (place-miss xs i s).0

  module _ {ord : K → K → Ordering} (cut : Cuts ord cmp) where
    -- if a pair is below a key, so are all pairs before it
    pub below-pivot : (xs : List (K × V)) (x : K × V) (ys : List (K × V)) → Rises ord (xs ++ x ∷ ys) → side x ≡ Less
        → AreBelow xs
    below-pivot [] x ys a l = tt
    below-pivot (y ∷ xs) x ys a l = (
      before_below cut k y.0 x.0 (AllByRecursion-right (λ z. ord y.0 z.0 ≡ Less) xs (x ∷ ys) a.0).0 l,
      below-pivot xs x ys a.1 l,
    )

    -- all pairs before the one with an equal key are below the key
    pub equal-front : (xs : List (K × V)) (x : K × V) (ys : List (K × V)) → Rises ord (xs ++ x ∷ ys) → side x ≡ Equal
        → AreBelow xs
    equal-front [] x ys a l = tt
    equal-front (y ∷ xs) x ys a l = (
      before_equal cut k y.0 x.0 (AllByRecursion-right (λ z. ord y.0 z.0 ≡ Less) xs (x ∷ ys) a.0).0 l,
      equal-front xs x ys a.1 l,
    )

    -- all pairs after the one with an equal key are above the key
    pub equal-back : (x : K × V) (ys : List (K × V)) → AllByRecursion (λ y. ord x.0 y.0 ≡ Less) ys → side x ≡ Equal
        → AreAbove ys
    equal-back x [] a l = tt
    equal-back x (y ∷ ys) a l = (cut.above k x.0 y.0 (ap is_lt l) a.0, equal-back x ys a.1 l)

    above-all : (x : K × V) (ys : List (K × V)) → AllByRecursion (λ y. ord x.0 y.0 ≡ Less) ys → side x ≡ Greater
        → AreAbove ys
    above-all x [] a g = tt
    above-all x (y ∷ ys) a g = (
      cut.above k x.0 y.0 (ap is_lt g) a.0,
      above-all x ys a.1 g,
    )

    -- if a pair is above a key, so are all pairs after it
    pub above-pivot : (x : K × V) (ys : List (K × V)) → Rises ord (x ∷ ys) → side x ≡ Greater → AreAbove (x ∷ ys)
    above-pivot x ys a g = (g, above-all x ys a.0 g)

    -- each ascending list has such parts
    some-search : (xs : List (K × V)) → Rises ord xs → (r : Result ℕ ℕ) × IsSearched xs r
    some-search [] up = (Err 0, ([], [], refl, refl, tt, tt))
    some-search (x ∷ xs) up = by (side x) refl (some-search xs up.1)
      where
        by : (o : Ordering) → side x ≡ o → (r : Result ℕ ℕ) × IsSearched xs r → (r : Result ℕ ℕ) × IsSearched (x ∷ xs) r
        by Less e (Ok i, s) = (Ok (suc i), (x ∷ s.0, s.1, s.2, ap (λ l. x ∷ l) s.3, ap suc s.4, (e, s.5), s.6, s.7))
        by Less e (Err i, s) = (Err (suc i), (x ∷ s.0, s.1, ap (λ l. x ∷ l) s.2, ap suc s.3, (e, s.4), s.5))
        by Equal e s = (Ok 0, ([], x, xs, refl, refl, tt, e, equal-back x xs up.0 e))
        by Greater e s = (Err 0, ([], x ∷ xs, refl, refl, tt, above-pivot x xs up e))

    pub searched : (xs : List (K × V)) (r : Result ℕ ℕ) → Rises ord xs → place_of cmp k xs ≡ r → IsSearched xs r
    searched xs r up e =
        let s = some-search xs up in
        subst (λ z. IsSearched xs z) (sym (searched-place xs s.0 s.1) ∙ e) s.1
