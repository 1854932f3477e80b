-- How many pairs are before the start bound of a range, and how many are up to its end bound.
use Rattle.btree_map.proofs.Common.{◌≡◌, ◌∙◌, ℕ, zero, suc, ◌+◌, ◌-◌, ◌<◌, Bool, true, false, not, cond, List, [], ◌∷◌, ◌++◌, length, take, drop, length-append, slice_get, nat_lt, inl, inr, Option, Some, None, refl, sym, ap, arith, cases_Bool, ltb-false, ltb-true, same_Some, entries_between, is_from_start, range_contains, IsTotalOrder, tied_itself, AllByRecursion, filter, is_le, is_lt, Ordering, Equal, Greater, Less, Bound, Included, Excluded, Unbounded, before, found, Rises, all-so, filter-earlier, from_place, to_place}
use Rattle.std.proofs.Common.{Result, Ok, Err, if◌then◌else◌, is_some}
use Rattle.std.proofs.lemmas.Bool.{cases_eq, cond-false, cond-true, le-ltb, lt-ltb}
use Rattle.std.proofs.lemmas.List.{drop_at, take_at}
use Rattle.std.proofs.lemmas.List.Sums.{length-filter, sum_by-cons}
use Rattle.std.specs.List.{count_by}
use Rattle.std.specs.Ordering.{is_eq, ordering_reverse}
use Rattle.btree_item.specs.Pairs.{place_of}
use Rattle.btree_item.proofs.PairLemmas.{before-from_Ok}
use Rattle.btree_walk.proofs.BoundLemmas.{between-take, from-start, start-cut}

module _ {X : Type 0} where
  count-cons : (p : X → Bool) (x : X) (xs : List X) → count_by p (x ∷ xs) ≡ cond (p x) 1 0 + count_by p xs
  count-cons p x xs = sum_by-cons (λ y. cond (p y) 1 0) x xs

  count-same : (p q : X → Bool) → ((x : X) → p x ≡ q x) → (xs : List X) → count_by p xs ≡ count_by q xs
  count-same p q same xs i = count_by (λ x. same x i) xs

  pub count-none : (xs : List X) → count_by (λ x. false) xs ≡ 0
  count-none [] = refl
  count-none (x ∷ xs) = let c = count-cons (λ y. false) x xs in let r = count-none xs in omega arith

  pub count-all : (xs : List X) → count_by (λ x. true) xs ≡ length xs
  count-all [] = refl
  count-all (x ∷ xs) = let c = count-cons (λ y. true) x xs in let r = count-all xs in omega arith

not-le : (o : Ordering) → not (is_le o) ≡ is_lt (ordering_reverse o)
not-le Less = refl
not-le Equal = refl
not-le Greater = refl

not-lt : (o : Ordering) → not (is_lt o) ≡ is_le (ordering_reverse o)
not-lt Less = refl
not-lt Equal = refl
not-lt Greater = refl

le-count : (o : Ordering) → cond (is_le o) 1 0 ≡ cond (is_lt o) 1 0 + cond (is_eq o) 1 0
le-count Less = omega arith
le-count Equal = omega arith
le-count Greater = omega arith

eq-none : (o o' : Ordering) → o ≡ o' → is_eq o' ≡ false → cond (is_eq o) 1 0 ≡ zero
eq-none o o' e fails = rw (e, fails) refl

eq-one : (o : Ordering) → o ≡ Equal → cond (is_eq o) 1 0 ≡ suc zero
eq-one o e = rw e refl

some-same : {X : Type 0} (a b : Option X) → a ≡ b → ◌≡◌ {A = ℕ} (cond (is_some a) 1 0) (cond (is_some b) 1 0)
some-same a b e = rw e refl

some-one : {X : Type 0} (a : Option X) (x : X) → a ≡ Some x → cond (is_some a) 1 0 ≡ suc zero
some-one a x e = rw e refl

some-none : {X : Type 0} (a : Option X) → a ≡ None → cond (is_some a) 1 0 ≡ zero
some-none a e = rw e refl

some-ok : {X : Type 0} (a : Option X) (n place : ℕ) → ◌≡◌ {A = Result ℕ ℕ} (if is_some a then Ok n else Err n) (Ok place) → cond (is_some a) 1 0 ≡ suc zero
some-ok None n place is = absurd (cc)
some-ok (Some x) n place is = refl

module _ {K V : Type 0} (cmp : K → K → Ordering) (laws : IsTotalOrder cmp) where
  module _ (k : K) where
    -- the keys below k
    below : (xs : List (K × V)) → count_by (λ x. not (is_le (cmp k x.0))) xs ≡ before cmp k xs
    below xs = count-same (λ x. not (is_le (cmp k x.0))) (λ x. is_lt (cmp x.0 k)) (λ x. not-le (cmp k x.0) ∙ ap is_lt (sym (laws.antisymm x.0 k))) xs

    up_to : (xs : List (K × V)) → count_by (λ x. not (is_lt (cmp k x.0))) xs ≡ count_by (λ x. is_le (cmp x.0 k)) xs
    up_to xs = count-same (λ x. not (is_lt (cmp k x.0))) (λ x. is_le (cmp x.0 k)) (λ x. not-lt (cmp k x.0) ∙ ap is_le (sym (laws.antisymm x.0 k))) xs

    both : (xs : List (K × V)) → count_by (λ x. is_le (cmp x.0 k)) xs ≡ before cmp k xs + count_by (λ x. is_eq (cmp x.0 k)) xs
    both [] = refl
    both (x ∷ xs) =
        let a = count-cons (λ y. is_le (cmp y.0 k)) x xs in
        let b = count-cons (λ y. is_lt (cmp y.0 k)) x xs in
        let c = count-cons (λ y. is_eq (cmp y.0 k)) x xs in
        let d = le-count (cmp x.0 k) in
        let r = both xs in
        omega arith

    -- no key after an equal one is equal
    none-equal : (x : K × V) (xs : List (K × V)) → cmp x.0 k ≡ Equal → AllByRecursion (λ y. cmp x.0 y.0 ≡ Less) xs → count_by (λ y. is_eq (cmp y.0 k)) xs ≡ 0
    none-equal x [] e up = refl
    none-equal x (y ∷ ys) e up =
        let c = count-cons (λ z. is_eq (cmp z.0 k)) y ys in
        let above : cmp k y.0 ≡ Less = sym (laws.congr x.0 k y.0 e) ∙ up.0 in
        let turned : cmp y.0 k ≡ Greater = laws.antisymm y.0 k ∙ ap ordering_reverse above in
        let no = eq-none (cmp y.0 k) Greater turned refl in
        let r = none-equal x ys e up.1 in
        omega arith

    -- the key is there once, or not at all
    equal-found : (xs : List (K × V)) → Rises cmp xs → count_by (λ x. is_eq (cmp x.0 k)) xs ≡ cond (is_some (found cmp k xs)) 1 0
    equal-found [] up = refl
    equal-found (x ∷ xs) up = by (cmp x.0 k) refl (equal-found xs up.1)
      where
        by : (o : Ordering) → cmp x.0 k ≡ o → count_by (λ y. is_eq (cmp y.0 k)) xs ≡ cond (is_some (found cmp k xs)) 1 0
            → count_by (λ y. is_eq (cmp y.0 k)) (x ∷ xs) ≡ cond (is_some (found cmp k (x ∷ xs))) 1 0
        by Less e r =
            let c = count-cons (λ y. is_eq (cmp y.0 k)) x xs in
            let no = eq-none (cmp x.0 k) Less e refl in
            let same : found cmp k (x ∷ xs) ≡ found cmp k xs = ap (λ o. cond (is_eq o) (Some x) (found cmp k xs)) e in
            let still = some-same (found cmp k (x ∷ xs)) (found cmp k xs) same in
            omega arith
        by Equal e r =
            let c = count-cons (λ y. is_eq (cmp y.0 k)) x xs in
            let yes = eq-one (cmp x.0 k) e in
            let here : found cmp k (x ∷ xs) ≡ Some x = ap (λ o. cond (is_eq o) (Some x) (found cmp k xs)) e in
            let one = some-one (found cmp k (x ∷ xs)) x here in
            let rest = none-equal x xs e up.0 in
            omega arith
        by Greater e r =
            let c = count-cons (λ y. is_eq (cmp y.0 k)) x xs in
            let no = eq-none (cmp x.0 k) Greater e refl in
            let same : found cmp k (x ∷ xs) ≡ found cmp k xs = ap (λ o. cond (is_eq o) (Some x) (found cmp k xs)) e in
            let still = some-same (found cmp k (x ∷ xs)) (found cmp k xs) same in
            omega arith

    through : (xs : List (K × V)) → Rises cmp xs → count_by (λ x. not (is_lt (cmp k x.0))) xs ≡ before cmp k xs + cond (is_some (found cmp k xs)) 1 0
    through xs up = up_to xs ∙ both xs ∙ ap (λ n. before cmp k xs + n) (equal-found xs up)

    -- the bounds at a key that is in the list, or not
    pub below-place : (xs : List (K × V)) → from_place cmp (Included k) xs ≡ before cmp k xs
    below-place xs = below xs

    pub below-end : (xs : List (K × V)) → to_place cmp (Excluded k) xs ≡ before cmp k xs
    below-end xs = below xs

    pub past-missing : (xs : List (K × V)) → Rises cmp xs → found cmp k xs ≡ None → from_place cmp (Excluded k) xs ≡ before cmp k xs
    past-missing xs up none = let t = through xs up in let z = some-none (found cmp k xs) none in omega arith

    pub up_to-missing : (xs : List (K × V)) → Rises cmp xs → found cmp k xs ≡ None → to_place cmp (Included k) xs ≡ before cmp k xs
    up_to-missing xs up none = past-missing xs up none

    pub past-found : (xs : List (K × V)) (place : ℕ) → Rises cmp xs → place_of cmp k xs ≡ Ok place → from_place cmp (Excluded k) xs ≡ suc place
    past-found xs place up is =
        let t = through xs up in
        let b = before-from_Ok cmp k xs place is in
        let z = some-ok (found cmp k xs) (before cmp k xs) place is in
        omega arith

    pub up_to-found : (xs : List (K × V)) (place : ℕ) → Rises cmp xs → place_of cmp k xs ≡ Ok place → to_place cmp (Included k) xs ≡ suc place
    up_to-found xs place up is = past-found xs place up is

  -- the order of two keys is that of their places
  less-after : (x : K × V) (xs : List (K × V)) (n : ℕ) (y : K × V) → AllByRecursion (λ z. cmp x.0 z.0 ≡ Less) xs → slice_get xs n ≡ Some y → cmp x.0 y.0 ≡ Less
  less-after x [] n y low here = absurd (cc)
  less-after x (z ∷ zs) zero y low here = ap (λ (w : K × V). cmp x.0 w.0) (sym (same_Some z y here)) ∙ low.0
  less-after x (z ∷ zs) (suc n) y low here = less-after x zs n y low.1 here

  pub less-in : (xs : List (K × V)) (m n : ℕ) (x y : K × V) → Rises cmp xs → m < n → slice_get xs m ≡ Some x → slice_get xs n ≡ Some y → cmp x.0 y.0 ≡ Less
  less-in [] m n x y up less here there = absurd (cc)
  less-in (z ∷ zs) zero zero x y up less here there = absurd (omega arith)
  less-in (z ∷ zs) zero (suc n) x y up less here there =
      ap (λ (w : K × V). cmp w.0 y.0) (sym (same_Some z x here)) ∙ less-after z zs n y up.0 there
  less-in (z ∷ zs) (suc m) zero x y up less here there = absurd (omega arith)
  less-in (z ∷ zs) (suc m) (suc n) x y up less here there = less-in zs m n x y up.1 (omega arith) here there

  pub order-of : (xs : List (K × V)) (m n : ℕ) (x y : K × V) → Rises cmp xs → slice_get xs m ≡ Some x → slice_get xs n ≡ Some y → is_le (cmp x.0 y.0) ≡ nat_lt m (suc n)
  order-of xs m n x y up here there = elim (cases_eq m n) [
    | inl same ↦
        let one : x ≡ y = same_Some x y (sym here ∙ ap (slice_get xs) same ∙ there) in
        let tied : cmp x.0 y.0 ≡ Equal = ap (λ (z : K × V). cmp x.0 z.0) (sym one) ∙ tied_itself laws x.0 in
        ap is_le tied ∙ sym (lt-ltb m (suc n) (omega arith))
    | inr apart ↦ elim (cases_Bool (nat_lt m n)) [
      | inl less ↦
          let low = ltb-true m n less in
          ap is_le (less-in xs m n x y up low here there) ∙ sym (lt-ltb m (suc n) (omega arith))
      | inr more ↦
          let high = ltb-false m n more in
          let above : cmp y.0 x.0 ≡ Less = less-in xs n m y x up (omega arith) there here in
          let turned : cmp x.0 y.0 ≡ Greater = laws.antisymm x.0 y.0 ∙ ap ordering_reverse above in
          ap is_le turned ∙ sym (le-ltb m (suc n) (omega arith))
    ]
  ]

module _ {X : Type 0} (p : X → Bool) where
  -- those that pass come first
  count-split : (xs ys : List X) → AllByRecursion (λ x. p x ≡ true) xs → AllByRecursion (λ x. p x ≡ false) ys → count_by p (xs ++ ys) ≡ length xs
  count-split [] [] pass fail = refl
  count-split [] (y ∷ ys) pass fail =
      let c = count-cons p y ys in
      let z : cond (p y) 1 0 ≡ zero = cond-false (p y) 1 0 fail.0 in
      let r = count-split [] ys tt fail.1 in
      omega arith
  count-split (x ∷ xs) ys pass fail =
      let c = count-cons p x (xs ++ ys) in
      let z : cond (p x) 1 0 ≡ suc zero = cond-true (p x) 1 0 pass.0 in
      let r = count-split xs ys pass.1 fail in
      omega arith

module _ {K V : Type 0} {cmp : K → K → Ordering} (laws : IsTotalOrder cmp) (xs : List (K × V)) (up : Rises cmp xs) (lo : Bound K) where
  abbrev is_before : K × V → Bool
  is_before x = not (is_from_start cmp lo x.0)

  outside-so : AllByRecursion (λ x. is_before x ≡ true) (start-cut laws lo xs up).outside
  outside-so = let c = start-cut laws lo xs up in all-so (λ x. is_from_start cmp lo x.0 ≡ false) (λ x. is_before x ≡ true) (λ x e. ap not e) c.outside c.out

  inside-so : AllByRecursion (λ x. is_before x ≡ false) (start-cut laws lo xs up).inside
  inside-so = let c = start-cut laws lo xs up in all-so (λ x. is_from_start cmp lo x.0 ≡ true) (λ x. is_before x ≡ false) (λ x e. ap not e) c.inside c.pass

  pub from-count : from_place cmp lo xs ≡ length (start-cut laws lo xs up).outside
  from-count =
      let c = start-cut laws lo xs up in
      ap (count_by is_before) c.is ∙ count-split is_before c.outside c.inside outside-so inside-so

  -- the pairs from the place of a start bound on, and those before it
  pub drop-from : drop (from_place cmp lo xs) xs ≡ entries_between cmp lo Unbounded xs
  drop-from =
      let c = start-cut laws lo xs up in
      let n = from_place cmp lo xs in
      ap (drop n) c.is ∙ drop_at c.outside c.inside n (sym from-count) ∙ sym (from-start laws xs up lo)

  pub take-from : take (from_place cmp lo xs) xs ≡ filter is_before xs
  take-from =
      let c = start-cut laws lo xs up in
      let n = from_place cmp lo xs in
      ap (take n) c.is ∙ take_at c.outside c.inside n (sym from-count)
      ∙ sym (ap (filter is_before) c.is ∙ filter-earlier is_before c.outside c.inside outside-so inside-so)

module _ {K V : Type 0} {cmp : K → K → Ordering} (laws : IsTotalOrder cmp) (xs : List (K × V)) (up : Rises cmp xs) (lo hi : Bound K) where
  -- the pairs between two bounds are those from one place up to another
  pub between-places : entries_between cmp lo hi xs ≡ take (to_place cmp hi xs - from_place cmp lo xs) (drop (from_place cmp lo xs) xs)
  between-places =
      let c = start-cut laws lo xs up in
      let n = from_place cmp lo xs in
      let from = entries_between cmp lo Unbounded xs in
      let until = entries_between cmp Unbounded hi xs in
      let rest : drop n xs ≡ from = drop-from laws xs up lo in
      let long = ap length c.is ∙ length-append c.outside c.inside in
      let out = from-count laws xs up lo in
      let inn = ap length (from-start laws xs up lo) in
      let end = length-filter (λ x. range_contains cmp Unbounded hi x.0) xs in
      let size : length until + length from - length xs ≡ to_place cmp hi xs - n = omega arith in
      between-take laws xs up lo hi from until refl refl ∙ ap (λ m. take m from) size ∙ ap (take (to_place cmp hi xs - n)) (sym rest)
