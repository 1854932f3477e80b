-- The pairs between two queries, as those between two keys of the list.
use Rattle.btree_map.proofs.Common.{◌≡◌, ◌∙◌, ℕ, zero, suc, ◌+◌, ◌≤◌, Bool, true, false, not, cond, ◌&&◌, List, [], ◌∷◌, Some, None, slice_get, refl, sym, ap, subst, arith, same_Some, entries_between, is_from_start, is_past_end, range_contains, IsTotalOrder, tied_itself, AllByRecursion, filter, is_gt, is_le, is_lt, Ordering, Equal, Greater, Less, Included, Excluded, Unbounded, before, Rises, prior}
use Rattle.std.proofs.lemmas.List.Sums.{sum_by-cons}
use Rattle.std.specs.Ordering.{ordering_reverse}
use Rattle.btree_item.specs.Keys.{Cuts}
use Rattle.btree_laws.proofs.LookUp.KeyInList.{reversed, reversed-back}
use Rattle.btree_map.specs.Queries.{pairs_from_to}

module _ {A : Type 0} where
  -- two tests that agree on each element filter alike
  filter-same : (p q : A → Bool) (xs : List A) → AllByRecursion (λ x. p x ≡ q x) xs → filter p xs ≡ filter q xs
  filter-same p q [] same = refl
  filter-same p q (x ∷ xs) same =
      ap (λ b. cond b (x ∷ filter p xs) (filter p xs)) same.0 ∙ ap (λ l. cond (q x) (x ∷ l) l) (filter-same p q xs same.1)

  filter-no : (p : A → Bool) → ((x : A) → p x ≡ false) → (xs : List A) → filter p xs ≡ []
  filter-no p never [] = refl
  filter-no p never (x ∷ xs) = ap (λ b. cond b (x ∷ filter p xs) (filter p xs)) (never x) ∙ filter-no p never xs

  -- no element passes both of two tests if none passes one of them
  first-fails : (p q : A → Bool) (xs : List A) → AllByRecursion (λ x. p x ≡ false) xs → filter (λ x. p x && q x) xs ≡ []
  first-fails p q [] all = refl
  first-fails p q (x ∷ xs) all =
      ap (λ b. cond (b && q x) (x ∷ filter (λ y. p y && q y) xs) (filter (λ y. p y && q y) xs)) all.0 ∙ first-fails p q xs all.1

  second-fails : (p q : A → Bool) (xs : List A) → AllByRecursion (λ x. q x ≡ false) xs → filter (λ x. p x && q x) xs ≡ []
  second-fails p q [] all = refl
  second-fails p q (x ∷ xs) all = by (p x) (second-fails p q xs all.1)
    where
      by : (b : Bool) → filter (λ y. p y && q y) xs ≡ [] → cond (b && q x) (x ∷ filter (λ y. p y && q y) xs) (filter (λ y. p y && q y) xs) ≡ []
      by true rest = ap (λ c. cond c (x ∷ filter (λ y. p y && q y) xs) (filter (λ y. p y && q y) xs)) all.0 ∙ rest
      by false rest = rest

  -- both tests agree with two others
  both-same : (p q r s : A → Bool) (xs : List A) → AllByRecursion (λ x. p x ≡ r x) xs → AllByRecursion (λ x. q x ≡ s x) xs
      → filter (λ x. p x && q x) xs ≡ filter (λ x. r x && s x) xs
  both-same p q r s [] a b = refl
  both-same p q r s (x ∷ xs) a b =
      ap (λ t. cond (t && q x) (x ∷ filter (λ y. p y && q y) xs) (filter (λ y. p y && q y) xs)) a.0
      ∙ ap (λ t. cond (r x && t) (x ∷ filter (λ y. p y && q y) xs) (filter (λ y. p y && q y) xs)) b.0
      ∙ ap (λ l. cond (r x && s x) (x ∷ l) l) (both-same p q r s xs a.1 b.1)

at-most-one : (b : Bool) → cond b 1 0 ≤ 1
at-most-one true = omega arith
at-most-one false = omega arith

one-below : (o : Ordering) → is_lt o ≡ true → cond (is_lt o) 1 0 ≡ suc zero
one-below o e = ap (λ b. cond b 1 0) e

none-below : (o : Ordering) → is_lt o ≡ false → cond (is_lt o) 1 0 ≡ zero
none-below o e = ap (λ b. cond b 1 0) e

module _ {K Q V : Type 0} (cmp : K → K → Ordering) (laws : IsTotalOrder cmp) (compare : K → Q → Ordering) (cut : Cuts cmp compare) (q : Q) where
  abbrev is_below : K × V → Bool
  is_below x = is_lt (compare x.0 q)

  before-cons : (x : K × V) (xs : List (K × V)) → before compare q (x ∷ xs) ≡ cond (is_below x) 1 0 + before compare q xs
  before-cons x xs = sum_by-cons (λ y. cond (is_below y) 1 0) x xs

  -- after a pair that is not below the query none is
  later-above : (x : K × V) (xs : List (K × V)) → is_below x ≡ false → AllByRecursion (λ y. cmp x.0 y.0 ≡ Less) xs → AllByRecursion (λ y. is_below y ≡ false) xs
  later-above x [] stop up = tt
  later-above x (y ∷ ys) stop up = (ap is_lt (cut.above q x.0 y.0 stop up.0), later-above x ys stop up.1)

  none-before : (xs : List (K × V)) → AllByRecursion (λ y. is_below y ≡ false) xs → before compare q xs ≡ 0
  none-before [] all = refl
  none-before (x ∷ xs) all =
      let c = before-cons x xs in
      let z = none-below (compare x.0 q) all.0 in
      let r = none-before xs all.1 in
      omega arith

  -- where none is before the query, no pair is below it
  no-before : (xs : List (K × V)) → before compare q xs ≡ 0 → AllByRecursion (λ y. is_below y ≡ false) xs
  no-before [] none = tt
  no-before (x ∷ xs) none = by (is_below x) refl (no-before xs)
    where
      by : (b : Bool) → is_below x ≡ b → (before compare q xs ≡ 0 → AllByRecursion (λ y. is_below y ≡ false) xs)
          → AllByRecursion (λ y. is_below y ≡ false) (x ∷ xs)
      by true e later = absurd (let c = before-cons x xs in let o = one-below (compare x.0 q) e in omega arith)
      by false e later =
          let c = before-cons x xs in
          let z = none-below (compare x.0 q) e in
          let rest : before compare q xs ≡ 0 = omega arith in
          (e, later rest)

  -- where no pair follows the place of the query, all are below it
  all-before : (xs : List (K × V)) → Rises cmp xs → slice_get xs (before compare q xs) ≡ None → AllByRecursion (λ y. not (is_below y) ≡ false) xs
  all-before [] up none = tt
  all-before (x ∷ xs) up none = by (is_below x) refl (all-before xs up.1)
    where
      by : (b : Bool) → is_below x ≡ b → (slice_get xs (before compare q xs) ≡ None → AllByRecursion (λ y. not (is_below y) ≡ false) xs)
          → AllByRecursion (λ y. not (is_below y) ≡ false) (x ∷ xs)
      by true e later =
          let c = before-cons x xs in
          let o = one-below (compare x.0 q) e in
          let one : before compare q (x ∷ xs) ≡ suc (before compare q xs) = omega arith in
          (ap not e, later (sym (ap (slice_get (x ∷ xs)) one) ∙ none))
      by false e later =
          let c = before-cons x xs in
          let z = none-below (compare x.0 q) e in
          let r = none-before xs (later-above x xs e up.0) in
          let here : before compare q (x ∷ xs) ≡ 0 = omega arith in
          absurd (let h : Some x ≡ None = sym (ap (slice_get (x ∷ xs)) here) ∙ none in cc)

  later-get : (x f : K × V) (xs : List (K × V)) (n : ℕ) → AllByRecursion (λ y. cmp x.0 y.0 ≡ Less) xs → slice_get xs n ≡ Some f → cmp x.0 f.0 ≡ Less
  later-get x f [] n up at = absurd (cc)
  later-get x f (y ∷ ys) zero up at = ap (λ (z : K × V). cmp x.0 z.0) (sym (same_Some y f at)) ∙ up.0
  later-get x f (y ∷ ys) (suc n) up at = later-get x f ys n up.1 at

  all-from : (x : K × V) (xs : List (K × V)) → AllByRecursion (λ y. cmp x.0 y.0 ≡ Less) xs → AllByRecursion (λ y. is_below y ≡ false) xs
      → AllByRecursion (λ y. is_from_start cmp (Included x.0) y.0 ≡ not (is_below y)) xs
  all-from x [] up stop = tt
  all-from x (y ∷ ys) up stop = (ap is_le up.0 ∙ sym (ap not stop.0), all-from x ys up.1 stop.1)

  -- the pairs not below the query are those from the first of them on
  pub from-first : (xs : List (K × V)) → Rises cmp xs → (f : K × V) → slice_get xs (before compare q xs) ≡ Some f
      → AllByRecursion (λ y. is_from_start cmp (Included f.0) y.0 ≡ not (is_below y)) xs
  from-first [] up f at = tt
  from-first (x ∷ xs) up f at = by (is_below x) refl (from-first xs up.1 f)
    where
      by : (b : Bool) → is_below x ≡ b
          → (slice_get xs (before compare q xs) ≡ Some f → AllByRecursion (λ y. is_from_start cmp (Included f.0) y.0 ≡ not (is_below y)) xs)
          → AllByRecursion (λ y. is_from_start cmp (Included f.0) y.0 ≡ not (is_below y)) (x ∷ xs)
      by true e later =
          let c = before-cons x xs in
          let o = one-below (compare x.0 q) e in
          let one : before compare q (x ∷ xs) ≡ suc (before compare q xs) = omega arith in
          let rest : slice_get xs (before compare q xs) ≡ Some f = sym (ap (slice_get (x ∷ xs)) one) ∙ at in
          let less = later-get x f xs (before compare q xs) up.0 rest in
          (ap is_le (reversed laws x.0 f.0 less) ∙ sym (ap not e), later rest)
      by false e later =
          let c = before-cons x xs in
          let z = none-below (compare x.0 q) e in
          let stop = later-above x xs e up.0 in
          let r = none-before xs stop in
          let here : before compare q (x ∷ xs) ≡ 0 = omega arith in
          let same : x ≡ f = same_Some x f (sym (ap (slice_get (x ∷ xs)) here) ∙ at) in
          subst (λ (z : K × V). AllByRecursion (λ y. is_from_start cmp (Included z.0) y.0 ≡ not (is_below y)) (x ∷ xs)) same
          (ap is_le (tied_itself laws x.0) ∙ sym (ap not e), all-from x xs up.0 stop)

  all-past : (x : K × V) (xs : List (K × V)) → AllByRecursion (λ y. cmp x.0 y.0 ≡ Less) xs → AllByRecursion (λ y. is_below y ≡ false) xs
      → AllByRecursion (λ y. not (is_past_end cmp (Included x.0) y.0) ≡ is_below y) xs
  all-past x [] up stop = tt
  all-past x (y ∷ ys) up stop = (ap (λ o. not (is_lt o)) up.0 ∙ sym stop.0, all-past x ys up.1 stop.1)

  -- the pairs below the query are those up to the last of them
  pub up_to-last : (xs : List (K × V)) → Rises cmp xs → (l : K × V) → prior xs (before compare q xs) ≡ Some l
      → AllByRecursion (λ y. not (is_past_end cmp (Included l.0) y.0) ≡ is_below y) xs
  up_to-last [] up l at = tt
  up_to-last (x ∷ xs) up l at = by (is_below x) refl (up_to-last xs up.1 l)
    where
      below : (n : ℕ) → before compare q xs ≡ n → is_below x ≡ true → slice_get (x ∷ xs) n ≡ Some l
          → (prior xs (before compare q xs) ≡ Some l → AllByRecursion (λ y. not (is_past_end cmp (Included l.0) y.0) ≡ is_below y) xs)
          → AllByRecursion (λ y. not (is_past_end cmp (Included l.0) y.0) ≡ is_below y) (x ∷ xs)
      below zero none e here later =
          let same : x ≡ l = same_Some x l here in
          subst (λ (z : K × V). AllByRecursion (λ y. not (is_past_end cmp (Included z.0) y.0) ≡ is_below y) (x ∷ xs)) same
          (ap (λ o. not (is_lt o)) (tied_itself laws x.0) ∙ sym e, all-past x xs up.0 (no-before xs none))
      below (suc n) is e here later =
          let less = later-get x l xs n up.0 here in
          (ap (λ o. not (is_lt o)) (reversed laws x.0 l.0 less) ∙ sym e, later (ap (prior xs) is ∙ here))

      by : (b : Bool) → is_below x ≡ b
          → (prior xs (before compare q xs) ≡ Some l → AllByRecursion (λ y. not (is_past_end cmp (Included l.0) y.0) ≡ is_below y) xs)
          → AllByRecursion (λ y. not (is_past_end cmp (Included l.0) y.0) ≡ is_below y) (x ∷ xs)
      by true e later =
          let c = before-cons x xs in
          let o = one-below (compare x.0 q) e in
          let one : before compare q (x ∷ xs) ≡ suc (before compare q xs) = omega arith in
          below (before compare q xs) refl e (sym (ap (prior (x ∷ xs)) one) ∙ at) later
      by false e later =
          let c = before-cons x xs in
          let z = none-below (compare x.0 q) e in
          let r = none-before xs (later-above x xs e up.0) in
          let here : before compare q (x ∷ xs) ≡ 0 = omega arith in
          absurd (let h : None ≡ Some l = sym (ap (prior (x ∷ xs)) here) ∙ at in cc)

  enough : (xs : List (K × V)) (n : ℕ) → suc n ≤ before compare q xs → slice_get xs n ≡ None → ⊥
  enough [] n many here = omega arith
  enough (x ∷ xs) zero many here = let h : Some x ≡ None = here in cc
  enough (x ∷ xs) (suc n) many here =
      let c = before-cons x xs in
      let most = at-most-one (is_below x) in
      enough xs n (omega arith) here

  -- where no pair is before the place of the query, none is below it
  pub none-up_to : (xs : List (K × V)) → Rises cmp xs → prior xs (before compare q xs) ≡ None → AllByRecursion (λ y. is_below y ≡ false) xs
  none-up_to [] up none = tt
  none-up_to (x ∷ xs) up none = by (is_below x) refl
    where
      by : (b : Bool) → is_below x ≡ b → AllByRecursion (λ y. is_below y ≡ false) (x ∷ xs)
      by true e =
          let c = before-cons x xs in
          let o = one-below (compare x.0 q) e in
          let one : before compare q (x ∷ xs) ≡ suc (before compare q xs) = omega arith in
          absurd (enough (x ∷ xs) (before compare q xs) (omega arith) (sym (ap (prior (x ∷ xs)) one) ∙ none))
      by false e = (e, later-above x xs e up.0)

-- no key is after a key and not after it
pub none-beside : {K V : Type 0} (cmp : K → K → Ordering) (k : K) (xs : List (K × V)) → entries_between cmp (Excluded k) (Included k) xs ≡ []
none-beside {K} {V} cmp k xs = filter-no (λ (x : K × V). range_contains cmp (Excluded k) (Included k) x.0) (λ x. by (is_lt (cmp k x.0))) xs
  where
    by : (b : Bool) → (b && not b) ≡ false
    by true = refl
    by false = refl

module _ {K Q R V : Type 0} (cmp : K → K → Ordering) (laws : IsTotalOrder cmp) (low : K → Q → Ordering) (low_cut : Cuts cmp low) (q : Q)
    (high : K → R → Ordering) (high_cut : Cuts cmp high) (r : R) (xs : List (K × V)) (up : Rises cmp xs) where
  pub none-from : slice_get xs (before low q xs) ≡ None → pairs_from_to low q high r xs ≡ []
  none-from none =
      first-fails (λ (x : K × V). not (is_lt (low x.0 q))) (λ (x : K × V). is_lt (high x.0 r)) xs (all-before cmp laws low low_cut q xs up none)

  pub none-to : prior xs (before high r xs) ≡ None → pairs_from_to low q high r xs ≡ []
  none-to none =
      second-fails (λ (x : K × V). not (is_lt (low x.0 q))) (λ (x : K × V). is_lt (high x.0 r)) xs (none-up_to cmp laws high high_cut r xs up none)

  module _ (f l : K × V) (first : slice_get xs (before low q xs) ≡ Some f) (last : prior xs (before high r xs) ≡ Some l) where
    pub between-keys : entries_between cmp (Included f.0) (Included l.0) xs ≡ pairs_from_to low q high r xs
    between-keys =
        both-same (λ (x : K × V). is_from_start cmp (Included f.0) x.0) (λ (x : K × V). not (is_past_end cmp (Included l.0) x.0))
        (λ (x : K × V). not (is_lt (low x.0 q))) (λ (x : K × V). is_lt (high x.0 r)) xs
        (from-first cmp laws low low_cut q xs up f first) (up_to-last cmp laws high high_cut r xs up l last)

    apart : is_le (cmp f.0 l.0) ≡ false → (k : K) → range_contains cmp (Included f.0) (Included l.0) k ≡ false
    apart over k = by (cmp f.0 k) (cmp l.0 k) refl refl
      where
        never : (o : Ordering) → cmp f.0 l.0 ≡ o → is_le o ≡ true → ⊥
        never o e le = let n : true ≡ false = sym le ∙ ap is_le (sym e) ∙ over in cc

        by : (a b : Ordering) → cmp f.0 k ≡ a → cmp l.0 k ≡ b → (is_le a && not (is_lt b)) ≡ false
        by Greater b e g = refl
        by Less Less e g = refl
        by Equal Less e g = refl
        by Less Equal e g = absurd (never Less (reversed-back laws l.0 f.0 (laws.congr l.0 k f.0 g ∙ reversed laws f.0 k e)) refl)
        by Less Greater e g = absurd (never Less (laws.trans f.0 k l.0 e (reversed-back laws l.0 k g)) refl)
        by Equal Equal e g = absurd (never Equal (laws.congr f.0 k l.0 e ∙ laws.antisymm k l.0 ∙ ap ordering_reverse g) refl)
        by Equal Greater e g = absurd (never Less (laws.congr f.0 k l.0 e ∙ reversed-back laws l.0 k g) refl)

    pub none-between : is_le (cmp f.0 l.0) ≡ false → pairs_from_to low q high r xs ≡ []
    none-between over =
        sym between-keys
        ∙ filter-no (λ (x : K × V). range_contains cmp (Included f.0) (Included l.0) x.0) (λ (x : K × V). apart over x.0) xs

-- without a first pair there is none
pub none-first : {K V : Type 0} (cmp : K → K → Ordering) (xs : List (K × V)) → None ≡ slice_get xs 0 → entries_between cmp Unbounded Unbounded xs ≡ []
none-first cmp [] none = refl
none-first cmp (x ∷ xs) none = absurd (cc)

pub greater : (o : Ordering) → is_gt o ≡ true → is_le o ≡ false
greater Less e = absurd (cc)
greater Equal e = absurd (cc)
greater Greater e = refl
