-- One turn of a merge of two ascending lists.
use Rattle.btree_set.proofs.Common.{◌≡◌, ◌∙◌, ◌+◌, ◌≤◌, Bool, true, false, not, cond, List, [], ◌∷◌, length, refl, ap, arith, IsTotalOrder, filter, IsStrictlySortedBy, is_eq, Ordering, Less, Equal, Greater, difference, intersection, is_in}
use Rattle.std.proofs.Common.{suc}
use Rattle.std.specs.List.{AllByRecursion}
use Rattle.std.specs.Ordering.{ordering_reverse}
use Rattle.std.specs.Set.{sorted_merge}
use Rattle.btree_walk.proofs.BoundLemmas.{all-so}
use Rattle.btree_laws.proofs.LookUp.KeyInList.{reversed, reversed-back}

pub by-order : {P : Type 0} (o : Ordering) → (o ≡ Less → P) → (o ≡ Equal → P) → (o ≡ Greater → P) → P
by-order Less a b c = a refl
by-order Equal a b c = b refl
by-order Greater a b c = c refl

module _ {T : Type 0} (cmp : T → T → Ordering) (both : Bool) where
  -- a merge with an empty list
  pub merge-none : (xs : List T) → sorted_merge cmp both xs [] ≡ xs
  merge-none [] = refl
  merge-none (x ∷ xs) = refl

  -- the first elements of two lists, merged
  module _ (x y : T) (xs ys : List T) where
    pub merge-less : cmp x y ≡ Less → sorted_merge cmp both (x ∷ xs) (y ∷ ys) ≡ x ∷ sorted_merge cmp both xs (y ∷ ys)
    merge-less less = rw less refl

    pub merge-greater : cmp x y ≡ Greater → sorted_merge cmp both (x ∷ xs) (y ∷ ys) ≡ y ∷ sorted_merge cmp both (x ∷ xs) ys
    merge-greater greater = rw greater refl

    pub merge-equal : cmp x y ≡ Equal → sorted_merge cmp both (x ∷ xs) (y ∷ ys) ≡ cond both (x ∷ sorted_merge cmp both xs ys) (sorted_merge cmp both xs ys)
    merge-equal equal = rw equal refl

-- two tests that are alike on a list filter it alike
filter-same : {A : Type 0} (p q : A → Bool) (xs : List A) → AllByRecursion (λ x. p x ≡ q x) xs → filter p xs ≡ filter q xs
filter-same p q [] all = refl
filter-same p q (x ∷ xs) all = rw all.0 (ap (λ l. cond (q x) (x ∷ l) l) (filter-same p q xs all.1))

module _ {T : Type 0} {cmp : T → T → Ordering} (laws : IsTotalOrder cmp) where
  -- each element of the list is above x
  abbrev pub Above : T → List T → Type 0
  Above x ys = AllByRecursion (λ y. cmp x y ≡ Less) ys

  apart : (x y : T) → cmp x y ≡ Less → is_eq (cmp y x) ≡ false
  apart x y less = ap is_eq (reversed laws x y less)

  pub absent : (x : T) (ys : List T) → Above x ys → is_in cmp ys x ≡ false
  absent x [] above = refl
  absent x (y ∷ ys) above = rw (apart x y above.0) (absent x ys above.1)

  pub above-more : (x y : T) (ys : List T) → cmp x y ≡ Less → Above y ys → Above x (y ∷ ys)
  above-more x y ys less above = (less, all-so (λ z. cmp y z ≡ Less) (λ z. cmp x z ≡ Less) (λ z more. laws.trans x y z less more) ys above)

  pub above-equal : (x y : T) (ys : List T) → cmp x y ≡ Equal → Above y ys → Above x ys
  above-equal x y ys equal above = all-so (λ z. cmp y z ≡ Less) (λ z. cmp x z ≡ Less) (λ z more. laws.congr x y z equal ∙ more) ys above

  -- an element y below each of xs makes no difference to them
  below-same : (f : Bool → Bool) (y : T) (ys xs : List T) → Above y xs → filter (λ x. f (is_in cmp (y ∷ ys) x)) xs ≡ filter (λ x. f (is_in cmp ys x)) xs
  below-same f y ys xs above =
      filter-same (λ x. f (is_in cmp (y ∷ ys) x)) (λ x. f (is_in cmp ys x)) xs
      (all-so (λ x. cmp y x ≡ Less) (λ x. f (is_in cmp (y ∷ ys) x) ≡ f (is_in cmp ys x)) (λ x less. rw (ap is_eq less) refl) xs above)

  -- the first elements of two ascending lists
  module _ (x y : T) (xs ys : List T) (up : IsStrictlySortedBy cmp (x ∷ xs)) (rise : IsStrictlySortedBy cmp (y ∷ ys)) where
    not-there : cmp x y ≡ Less → is_in cmp (y ∷ ys) x ≡ false
    unfolding IsStrictlySortedBy
    not-there less = absent x (y ∷ ys) (above-more x y ys less rise.0)

    there : cmp x y ≡ Equal → is_in cmp (y ∷ ys) x ≡ true
    there equal = rw (laws.antisymm y x ∙ ap ordering_reverse equal) refl

    skip-equal : (f : Bool → Bool) → cmp x y ≡ Equal → filter (λ z. f (is_in cmp (y ∷ ys) z)) xs ≡ filter (λ z. f (is_in cmp ys z)) xs
    unfolding IsStrictlySortedBy
    skip-equal f equal = below-same f y ys xs (above-equal y x xs (laws.antisymm y x ∙ ap ordering_reverse equal) up.0)

    skip-greater : (f : Bool → Bool) → cmp x y ≡ Greater
        → filter (λ z. f (is_in cmp (y ∷ ys) z)) (x ∷ xs) ≡ filter (λ z. f (is_in cmp ys z)) (x ∷ xs)
    unfolding IsStrictlySortedBy
    skip-greater f greater = below-same f y ys (x ∷ xs) (above-more y x xs (reversed-back laws x y greater) up.0)

    pub intersection-less : cmp x y ≡ Less → intersection cmp (x ∷ xs) (y ∷ ys) ≡ intersection cmp xs (y ∷ ys)
    intersection-less less = rw (not-there less) refl

    pub intersection-equal : cmp x y ≡ Equal → intersection cmp (x ∷ xs) (y ∷ ys) ≡ x ∷ intersection cmp xs ys
    intersection-equal equal = rw (there equal) (ap (λ l. x ∷ l) (skip-equal (λ b. b) equal))

    pub intersection-greater : cmp x y ≡ Greater → intersection cmp (x ∷ xs) (y ∷ ys) ≡ intersection cmp (x ∷ xs) ys
    intersection-greater greater = skip-greater (λ b. b) greater

    pub difference-less : cmp x y ≡ Less → difference cmp (x ∷ xs) (y ∷ ys) ≡ x ∷ difference cmp xs (y ∷ ys)
    difference-less less = rw (not-there less) refl

    pub difference-equal : cmp x y ≡ Equal → difference cmp (x ∷ xs) (y ∷ ys) ≡ difference cmp xs ys
    difference-equal equal = rw (there equal) (skip-equal not equal)

    pub difference-greater : cmp x y ≡ Greater → difference cmp (x ∷ xs) (y ∷ ys) ≡ difference cmp (x ∷ xs) ys
    difference-greater greater = skip-greater not greater

  -- without a second list
  pub intersection-none : (xs : List T) → intersection cmp xs [] ≡ []
  intersection-none [] = refl
  intersection-none (x ∷ xs) = intersection-none xs

  pub difference-none : (xs : List T) → difference cmp xs [] ≡ xs
  difference-none [] = refl
  difference-none (x ∷ xs) = ap (λ l. x ∷ l) (difference-none xs)

  pub rest-up : (x : T) (xs : List T) → IsStrictlySortedBy cmp (x ∷ xs) → IsStrictlySortedBy cmp xs
  unfolding IsStrictlySortedBy
  rest-up x xs up = up.1

  intersection-at : (x : T) (xs : List T) → IsStrictlySortedBy cmp (x ∷ xs)
      → ((ys : List T) → IsStrictlySortedBy cmp ys → length (intersection cmp xs ys) ≤ length ys)
      → (ys : List T) → IsStrictlySortedBy cmp ys → length (intersection cmp (x ∷ xs) ys) ≤ length ys
  intersection-at x xs up go [] rise = rw (intersection-none xs) (omega arith)
  intersection-at x xs up go (y ∷ ys) rise =
      by-order (cmp x y)
      (λ less. rw (intersection-less x y xs ys up rise less) (go (y ∷ ys) rise))
      (λ equal. rw (intersection-equal x y xs ys up rise equal) (let n = go ys (rest-up y ys rise) in omega arith))
      (λ greater. rw (intersection-greater x y xs ys up rise greater) (let n = intersection-at x xs up go ys (rest-up y ys rise) in omega arith))

  -- at most as many elements as the second list has
  pub intersection-few : (xs ys : List T) → IsStrictlySortedBy cmp xs → IsStrictlySortedBy cmp ys → length (intersection cmp xs ys) ≤ length ys
  intersection-few [] ys up rise = omega arith
  intersection-few (x ∷ xs) ys up rise = intersection-at x xs up (λ zs. intersection-few xs zs (rest-up x xs up)) ys rise

-- a test and its opposite share the elements of a list
pub filter-both : {A : Type 0} (p : A → Bool) (xs : List A) → length (filter p xs) + length (filter (λ x. not (p x)) xs) ≡ length xs
filter-both p [] = refl
filter-both p (x ∷ xs) = by (p x) (filter-both p xs)
  where
    by : (b : Bool) → length (filter p xs) + length (filter (λ x. not (p x)) xs) ≡ length xs
        → length (cond b (x ∷ filter p xs) (filter p xs)) + length (cond (not b) (x ∷ filter (λ x. not (p x)) xs) (filter (λ x. not (p x)) xs)) ≡ suc (length xs)
    by true n = omega arith
    by false n = omega arith

module _ {T : Type 0} (cmp : T → T → Ordering) where
  merged-at : (both : Bool) (x : T) (xs : List T) → ((ys : List T) → length (sorted_merge cmp both xs ys) ≤ length xs + length ys)
      → (ys : List T) → length (sorted_merge cmp both (x ∷ xs) ys) ≤ suc (length xs) + length ys
  merged-at both x xs go [] = omega arith
  merged-at both x xs go (y ∷ ys) =
      by-order (cmp x y)
      (λ less. rw (merge-less cmp both x y xs ys less) (let n = go (y ∷ ys) in omega arith))
      (λ equal. rw (merge-equal cmp both x y xs ys equal) (either both (go ys)))
      (λ greater. rw (merge-greater cmp both x y xs ys greater) (let n = merged-at both x xs go ys in omega arith))
    where
      either : (b : Bool) → length (sorted_merge cmp both xs ys) ≤ length xs + length ys
          → length (cond b (x ∷ sorted_merge cmp both xs ys) (sorted_merge cmp both xs ys)) ≤ suc (length xs) + suc (length ys)
      either true n = omega arith
      either false n = omega arith

  -- a merge has at most the elements of both lists
  pub merged-few : (both : Bool) (xs ys : List T) → length (sorted_merge cmp both xs ys) ≤ length xs + length ys
  merged-few both [] ys = omega arith
  merged-few both (x ∷ xs) ys = merged-at both x xs (merged-few both xs) ys

  union-at : (x : T) (xs : List T) → ((ys : List T) → (length xs ≤ length (sorted_merge cmp true xs ys)) × (length ys ≤ length (sorted_merge cmp true xs ys)))
      → (ys : List T) → (suc (length xs) ≤ length (sorted_merge cmp true (x ∷ xs) ys)) × (length ys ≤ length (sorted_merge cmp true (x ∷ xs) ys))
  union-at x xs go [] = (omega arith, omega arith)
  union-at x xs go (y ∷ ys) =
      by-order (cmp x y)
      (λ less. rw (merge-less cmp true x y xs ys less) (let n = go (y ∷ ys) in let a = n.0 in let b = n.1 in (omega arith, omega arith)))
      (λ equal. rw (merge-equal cmp true x y xs ys equal) (let n = go ys in let a = n.0 in let b = n.1 in (omega arith, omega arith)))
      (λ greater. rw (merge-greater cmp true x y xs ys greater) (let n = union-at x xs go ys in let a = n.0 in let b = n.1 in (omega arith, omega arith)))

  -- a union has at least the elements of each list
  pub union-many : (xs ys : List T) → (length xs ≤ length (sorted_merge cmp true xs ys)) × (length ys ≤ length (sorted_merge cmp true xs ys))
  union-many [] ys = (omega arith, omega arith)
  union-many (x ∷ xs) ys = union-at x xs (union-many xs) ys
