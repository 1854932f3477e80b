-- Where a key is, or would be, in a list of keys that ascend.
use Rattle.btree_item.proofs.Common.{◌≡◌, ℕ, ◌+◌, ◌<◌, ◌≤◌, Bool, true, false, cond, List, [], ◌∷◌, Option, Some, Ok, Err, length, zero, suc, refl, sym, ◌∙◌, ap, arith, subst, Ordering, Less, Equal, Greater, slice_get, is_eq, is_lt, is_some_and, slice_get_within, sorted_tail, count_below, has_key, AllBelow}
use Rattle.std.proofs.Common.{inl, inr}
use Rattle.std.specs.Prelude.{◌||◌}
use Rattle.std.specs.Ordering.{partial_lt}
use Rattle.std.specs.Cmp.{Agrees}
use Rattle.std.specs.List.{AllByRecursion, count_by, list_any}
use Rattle.std.specs.List.Sorted.{IsStrictlySortedBy}
use Rattle.std.proofs.lemmas.Bool.{cases_lt, or_right}
use Rattle.std.proofs.lemmas.Map.Keys.{sorted_head}
use Rattle.std.proofs.lemmas.List.Sums.{sum_by-cons}
use Rattle.btree_item.specs.Keys.{Cuts, key_place, IsNotBelowAt, IsFirstNotBelow}

-- the ordering that `is_lt` is true of is `Less`
pub Less-from_is_lt : (c : Ordering) → is_lt c ≡ true → c ≡ Less
Less-from_is_lt Less h = refl
Less-from_is_lt Equal h = absurd (cc)
Less-from_is_lt Greater h = absurd (cc)

-- what `<` returns, by the order that it agrees with
pub is_lt-from_partial : {K : Type 0} {partial : K → K → Option Ordering} {cmp : K → K → Ordering} → Agrees partial cmp → (x y : K) (r : Bool) → r ≡ partial_lt partial x y → is_lt (cmp x y) ≡ r
is_lt-from_partial agrees x y r answer = sym (answer ∙ ap (is_some_and is_lt) (agrees x y))

module _ {X : Type 0} (test : X → Bool) where
  -- of a first element and others, those that pass a test are counted one by one
  pub count_by-cons : (x : X) (xs : List X) → count_by test (x ∷ xs) ≡ cond (test x) 1 0 + count_by test xs
  count_by-cons x xs = sum_by-cons (λ y. cond (test y) 1 0) x xs

  count_by-none : (xs : List X) → AllByRecursion (λ x. test x ≡ false) xs → count_by test xs ≡ 0
  count_by-none [] none = refl
  count_by-none (x ∷ xs) none = let rest = count_by-none xs none.1 in count_by-cons x xs ∙ rw (none.0, rest) refl

  list_any-none : (xs : List X) → AllByRecursion (λ x. test x ≡ false) xs → list_any test xs ≡ false
  list_any-none [] none = refl
  list_any-none (x ∷ xs) none = let rest = list_any-none xs none.1 in rw (none.0, rest) refl

module _ {K Q : Type 0} {cmp : K → Q → Ordering} where
  pub AllBelow-none : (k : Q) (keys : List K) → AllBelow cmp k 0 keys
  AllBelow-none k keys = record { below = λ i q lt at. absurd (omega arith) }

  AllBelow-add : (k : Q) (q : K) (n : ℕ) (keys : List K) → AllBelow cmp k n keys → slice_get keys n ≡ Some q → cmp q k ≡ Less → (i : ℕ) (p : K) → i < n + 1 → slice_get keys i ≡ Some p → cmp p k ≡ Less
  AllBelow-add k q n keys all at less i p within here = elim (cases_lt i n) [
    | inl earlier ↦ all.below i p earlier here
    | inr reached ↦
        let same : i ≡ n = omega arith in
        let both : slice_get keys i ≡ Some q = ap (slice_get keys) same ∙ at in
        let equal : q ≡ p = cc in
        rw (← equal) less
  ]

  -- one more key that is below
  pub AllBelow-more : (k : Q) (q : K) (n : ℕ) (keys : List K) → AllBelow cmp k n keys → slice_get keys n ≡ Some q → is_lt (cmp q k) ≡ true → AllBelow cmp k (n + 1) keys
  AllBelow-more k q n keys all at lt = record { below = AllBelow-add k q n keys all at (Less-from_is_lt (cmp q k) lt) }

  pub IsNotBelowAt-from_key : (k : Q) (q : K) (i : ℕ) (keys : List K) → slice_get keys i ≡ Some q → is_lt (cmp q k) ≡ false → IsNotBelowAt cmp k i keys
  IsNotBelowAt-from_key k q i keys at not_below = record { stops = λ p here. let equal : q ≡ p = cc in rw (← equal) not_below }

  pub IsNotBelowAt-end : (k : Q) (i : ℕ) (keys : List K) → length keys ≤ i → IsNotBelowAt cmp k i keys
  IsNotBelowAt-end k i keys past = record { stops = λ p here. absurd (omega (arith, slice_get_within keys i p here)) }

  -- the key at index n is not below: this is known already if n is passed, or n is the index that is read next, and its
  -- key is not below
  pub IsNotBelowAt-next : (k : Q) (q : K) (n i : ℕ) (keys : List K) → (n < i → IsNotBelowAt cmp k n keys) → n ≤ i → slice_get keys i ≡ Some q → is_lt (cmp q k) ≡ false → n < i + 1 → IsNotBelowAt cmp k n keys
  IsNotBelowAt-next k q n i keys stood reached at not_below within = elim (cases_lt n i) [
    | inl earlier ↦ stood earlier
    | inr later ↦
        let same : i ≡ n = omega arith in
        subst (λ j. IsNotBelowAt cmp k j keys) same (IsNotBelowAt-from_key k q i keys at not_below)
  ]

  tail_is_first : (k : Q) (q : K) (i : ℕ) (keys : List K) → IsFirstNotBelow cmp k (suc i) (q ∷ keys) → IsFirstNotBelow cmp k i keys
  tail_is_first k q i keys first = record {
    within = let w = first.within in omega arith;
    before = record { below = λ j p lt at. first.before.below (suc j) p (omega arith) at };
    here = record { stops = first.here.stops };
  }

  first_or_later : (k : Q) (x : K) (n : ℕ) (keys : List K) → cmp x k ≡ Less → AllBelow cmp k n keys → (i : ℕ) (q : K) → i < suc n → slice_get (x ∷ keys) i ≡ Some q → cmp q k ≡ Less
  first_or_later k x n keys less all zero q lt at = let same : x ≡ q = cc in rw (← same) less
  first_or_later k x n keys less all (suc i) q lt at = all.below i q (omega arith) at

  module _ {ord : K → K → Ordering} (c : Cuts ord cmp) where
    before_below-by : (b : Bool) (k : Q) (x y : K) → is_lt (cmp x k) ≡ b → ord x y ≡ Less → cmp y k ≡ Less → cmp x k ≡ Less
    before_below-by true k x y is up less = Less-from_is_lt (cmp x k) is
    before_below-by false k x y is up less = let over = c.above k x y is up in absurd (cc)

    before_below-not : (b : Bool) (k : Q) (x y : K) → is_lt (cmp x k) ≡ b → ord x y ≡ Less → cmp y k ≡ Equal → cmp x k ≡ Less
    before_below-not true k x y is up same = Less-from_is_lt (cmp x k) is
    before_below-not false k x y is up same = let over = c.above k x y is up in absurd (cc)

    -- a key before one that is equal to k is below k
    pub before_equal : (k : Q) (x y : K) → ord x y ≡ Less → cmp y k ≡ Equal → cmp x k ≡ Less
    before_equal k x y up same = before_below-not (is_lt (cmp x k)) k x y refl up same

    -- a key before one that is below k is below k
    pub before_below : (k : Q) (x y : K) → ord x y ≡ Less → cmp y k ≡ Less → cmp x k ≡ Less
    before_below k x y up less = before_below-by (is_lt (cmp x k)) k x y refl up less

    later_are_above : (k : Q) (x : K) (keys : List K) → is_lt (cmp x k) ≡ false → AllByRecursion (λ y. ord x y ≡ Less) keys → AllByRecursion (λ y. cmp y k ≡ Greater) keys
    later_are_above k x [] not_below up = tt
    later_are_above k x (y ∷ keys) not_below up = (c.above k x y not_below up.0, later_are_above k x keys not_below up.1)

    not_lt : (k : Q) (keys : List K) → AllByRecursion (λ y. cmp y k ≡ Greater) keys → AllByRecursion (λ y. is_lt (cmp y k) ≡ false) keys
    not_lt k [] all = tt
    not_lt k (y ∷ keys) all = (ap is_lt all.0, not_lt k keys all.1)

    not_eq : (k : Q) (keys : List K) → AllByRecursion (λ y. cmp y k ≡ Greater) keys → AllByRecursion (λ y. is_eq (cmp y k) ≡ false) keys
    not_eq k [] all = tt
    not_eq k (y ∷ keys) all = (ap is_eq all.0, not_eq k keys all.1)

    -- after a key that is not below k no key is below or equal to k
    pub count_below-later : (k : Q) (x : K) (keys : List K) → IsStrictlySortedBy ord (x ∷ keys) → is_lt (cmp x k) ≡ false → count_below cmp k keys ≡ 0
    count_below-later k x keys up not_below =
        count_by-none (λ q. is_lt (cmp q k)) keys (not_lt k keys (later_are_above k x keys not_below (sorted_head ord x keys up)))

    pub has_key-later : (k : Q) (x : K) (keys : List K) → IsStrictlySortedBy ord (x ∷ keys) → is_lt (cmp x k) ≡ false → has_key cmp k keys ≡ false
    has_key-later k x keys up not_below =
        list_any-none (λ q. is_eq (cmp q k)) keys (not_eq k keys (later_are_above k x keys not_below (sorted_head ord x keys up)))

    pub count_below-first : (k : Q) (i : ℕ) (keys : List K) → IsStrictlySortedBy ord keys → IsFirstNotBelow cmp k i keys → count_below cmp k keys ≡ i
    count_below-first k zero [] up first = refl
    count_below-first k (suc i) [] up first = let w = first.within in absurd (omega arith)
    count_below-first k zero (x ∷ keys) up first =
        let stop = first.here.stops x refl in
        let none = count_below-later k x keys up stop in
        count_by-cons (λ q. is_lt (cmp q k)) x keys ∙ rw (stop, none) refl
    count_below-first k (suc i) (x ∷ keys) up first =
        let less = first.before.below zero x (omega arith) refl in
        let rest = count_below-first k i keys (sorted_tail ord x keys up) (tail_is_first k x i keys first) in
        count_by-cons (λ q. is_lt (cmp q k)) x keys ∙ rw (less, rest) (omega arith)

    first-by : (b : Bool) (k : Q) (x : K) (keys : List K) → is_lt (cmp x k) ≡ b → IsStrictlySortedBy ord (x ∷ keys) → IsFirstNotBelow cmp k (count_below cmp k keys) keys → IsFirstNotBelow cmp k (count_below cmp k (x ∷ keys)) (x ∷ keys)
    first-by true k x keys is up first =
        let w = first.within in
        let less = Less-from_is_lt (cmp x k) is in
        let count : count_below cmp k (x ∷ keys) ≡ suc (count_below cmp k keys) = count_by-cons (λ q. is_lt (cmp q k)) x keys ∙ rw is (omega arith) in
        rw count (record {
          within = omega arith;
          before = record { below = first_or_later k x (count_below cmp k keys) keys less first.before };
          here = record { stops = first.here.stops };
        })
    first-by false k x keys is up first =
        let none = count_below-later k x keys up is in
        let count : count_below cmp k (x ∷ keys) ≡ 0 = count_by-cons (λ q. is_lt (cmp q k)) x keys ∙ rw (is, none) refl in
        rw count (record {
          within = omega arith;
          before = AllBelow-none k (x ∷ keys);
          here = IsNotBelowAt-from_key k x 0 (x ∷ keys) refl is;
        })

    -- the number of smaller keys is a place
    pub IsFirstNotBelow-count : (k : Q) (keys : List K) → IsStrictlySortedBy ord keys → IsFirstNotBelow cmp k (count_below cmp k keys) keys
    IsFirstNotBelow-count k [] up = record { within = omega arith; before = AllBelow-none k []; here = record { stops = λ q at. absurd (cc) } }
    IsFirstNotBelow-count k (x ∷ keys) up = first-by (is_lt (cmp x k)) k x keys refl up (IsFirstNotBelow-count k keys (sorted_tail ord x keys up))

    pub has_key-here : (k : Q) (q : K) (i : ℕ) (keys : List K) → slice_get keys i ≡ Some q → is_eq (cmp q k) ≡ true → has_key cmp k keys ≡ true
    has_key-here k q i [] at equal = absurd (cc)
    has_key-here k q zero (x ∷ keys) at equal = let same : x ≡ q = cc in rw (same, equal) refl
    has_key-here k q (suc i) (x ∷ keys) at equal = let rest = has_key-here k q i keys at equal in rw rest (or_right (is_eq (cmp x k)) true refl)

    pub has_key-gap : (k : Q) (i : ℕ) (keys : List K) → IsStrictlySortedBy ord keys → IsFirstNotBelow cmp k i keys → ((q : K) → slice_get keys i ≡ Some q → is_eq (cmp q k) ≡ false) → has_key cmp k keys ≡ false
    has_key-gap k i [] up first apart = refl
    has_key-gap k zero (x ∷ keys) up first apart =
        let stop = first.here.stops x refl in
        let here = apart x refl in
        let none = has_key-later k x keys up stop in
        rw (here, none) refl
    has_key-gap k (suc i) (x ∷ keys) up first apart =
        let less = first.before.below zero x (omega arith) refl in
        let rest = has_key-gap k i keys (sorted_tail ord x keys up) (tail_is_first k x i keys first) apart in
        rw (less, rest) refl

    pub key_place-here : (k : Q) (q : K) (i : ℕ) (keys : List K) → IsStrictlySortedBy ord keys → IsFirstNotBelow cmp k i keys → slice_get keys i ≡ Some q → is_eq (cmp q k) ≡ true → key_place cmp k keys ≡ Ok i
    key_place-here k q i keys up first at equal =
        let has = has_key-here k q i keys at equal in
        let count = count_below-first k i keys up first in
        rw (has, count) refl

    pub key_place-gap : (k : Q) (i : ℕ) (keys : List K) → IsStrictlySortedBy ord keys → IsFirstNotBelow cmp k i keys → ((q : K) → slice_get keys i ≡ Some q → is_eq (cmp q k) ≡ false) → key_place cmp k keys ≡ Err i
    key_place-gap k i keys up first apart =
        let has = has_key-gap k i keys up first apart in
        let count = count_below-first k i keys up first in
        rw (has, count) refl

    pub key_place-end : (k : Q) (i : ℕ) (keys : List K) → IsStrictlySortedBy ord keys → IsFirstNotBelow cmp k i keys → length keys ≤ i → key_place cmp k keys ≡ Err i
    key_place-end k i keys up first past = key_place-gap k i keys up first (λ q at. absurd (omega (arith, slice_get_within keys i q at)))

    pub key_place-between : (k : Q) (q : K) (i : ℕ) (keys : List K) → IsStrictlySortedBy ord keys → IsFirstNotBelow cmp k i keys → slice_get keys i ≡ Some q → is_eq (cmp q k) ≡ false → key_place cmp k keys ≡ Err i
    key_place-between k q i keys up first at apart = key_place-gap k i keys up first (λ p here. let equal : q ≡ p = cc in rw (← equal) apart)

    -- in ascending keys, those before one that is below are below too
    below_up_to : (k : Q) (x : K) (m : ℕ) (keys : List K) → IsStrictlySortedBy ord keys → slice_get keys m ≡ Some x → cmp x k ≡ Less → (i : ℕ) (q : K) → i < m + 1 → slice_get keys i ≡ Some q → cmp q k ≡ Less
    below_up_to k x m [] up at less i q within here = absurd (cc)
    below_up_to k x zero (y ∷ keys) up at less zero q within here = let equal : x ≡ q = cc in rw (← equal) less
    below_up_to k x zero (y ∷ keys) up at less (suc i) q within here = absurd (omega arith)
    below_up_to k x (suc m) (y ∷ keys) up at less zero q within here =
        let equal : y ≡ q = cc in
        let first = at_place x m keys (sorted_head ord y keys up) at in
        rw (← equal) (before_below k y x first less)
      where
        at_place : (x : K) (m : ℕ) (keys : List K) → AllByRecursion (λ z. ord y z ≡ Less) keys → slice_get keys m ≡ Some x → ord y x ≡ Less
        at_place x m [] all at = absurd (cc)
        at_place x zero (z ∷ keys) all at = let equal : z ≡ x = cc in rw (← equal) all.0
        at_place x (suc m) (z ∷ keys) all at = at_place x m keys all.1 at
    below_up_to k x (suc m) (y ∷ keys) up at less (suc i) q within here =
        below_up_to k x m keys (sorted_tail ord y keys up) at less i q (omega arith) here

    pub AllBelow-from_key : (k : Q) (x : K) (m : ℕ) (keys : List K) → IsStrictlySortedBy ord keys → slice_get keys m ≡ Some x → is_lt (cmp x k) ≡ true → AllBelow cmp k (m + 1) keys
    AllBelow-from_key k x m keys up at lt = record { below = below_up_to k x m keys up at (Less-from_is_lt (cmp x k) lt) }

pub ruleset search_steps = (AllBelow-none, AllBelow-more, IsNotBelowAt-from_key, IsNotBelowAt-end)

pub ruleset search_halves = (AllBelow-none, AllBelow-from_key, IsNotBelowAt-from_key, IsNotBelowAt-end)
