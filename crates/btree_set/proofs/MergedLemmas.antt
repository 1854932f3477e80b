-- What a merge of two ascending lists has: it ascends, and an element is in it by whether it is in each of the lists.
use Rattle.btree_set.proofs.Common.{◌≡◌, ◌∙◌, Bool, true, false, cond, List, [], ◌∷◌, is_some, Some, ◌&&◌, refl, sym, ap, IsTotalOrder, filter, IsStrictlySortedBy, is_eq, Ordering, Less, Equal, is_in}
use Rattle.std.proofs.Common.{◌||◌}
use Rattle.std.proofs.Math.Bool.{or-false, xor}
use Rattle.std.proofs.lemmas.Cmp.{alike_right, tied_back}
use Rattle.std.specs.List.{AllByRecursion, find}
use Rattle.std.specs.Set.{sorted_merge}
use Rattle.btree_set.proofs.MergeLemmas.{above-equal, above-more, absent, by-order, merge-equal, merge-greater, merge-less, rest-up}
use Rattle.btree_find.specs.CallerLaws.{equal-by}
use Rattle.btree_laws.proofs.LookUp.KeyInList.{reversed-back}

module _ {T : Type 0} (cmp : T → T → Ordering) where
  -- whether x is in a list, by its first element
  in-first : (y : T) (ys : List T) (x : T) → is_in cmp (y ∷ ys) x ≡ (is_eq (cmp y x) || is_in cmp ys x)
  in-first y ys x = by (is_eq (cmp y x))
    where
      by : (b : Bool) → is_some (cond b (Some y) (find (λ z. is_eq (cmp z x)) ys)) ≡ (b || is_in cmp ys x)
      by true = refl
      by false = refl

  -- what holds of the elements of both lists holds of those of a merge
  module _ (P : T → Type 0) (both : Bool) where
    all-at : (x : T) (xs : List T) → ((ys : List T) → AllByRecursion P ys → AllByRecursion P (sorted_merge cmp both xs ys))
        → P x → (ys : List T) → AllByRecursion P xs → AllByRecursion P ys → AllByRecursion P (sorted_merge cmp both (x ∷ xs) ys)
    all-at x xs go here [] first second = (here, first)
    all-at x xs go here (y ∷ ys) first second =
        by-order (cmp x y)
        (λ less. rw (merge-less cmp both x y xs ys less) (here, go (y ∷ ys) second))
        (λ equal. rw (merge-equal cmp both x y xs ys equal) (either both (go ys second.1)))
        (λ greater. rw (merge-greater cmp both x y xs ys greater) (second.0, all-at x xs go here ys first second.1))
      where
        either : (b : Bool) → AllByRecursion P (sorted_merge cmp both xs ys)
            → AllByRecursion P (cond b (x ∷ sorted_merge cmp both xs ys) (sorted_merge cmp both xs ys))
        either true all = (here, all)
        either false all = all

    all-merged : (xs ys : List T) → AllByRecursion P xs → AllByRecursion P ys → AllByRecursion P (sorted_merge cmp both xs ys)
    all-merged [] ys first second = second
    all-merged (x ∷ xs) ys first second = all-at x xs (λ zs rest. all-merged xs zs first.1 rest) first.0 ys first.1 second

-- how a test of the first elements joins what holds of the others
or-of-same : (a m n : Bool) → (a || (m || n)) ≡ ((a || m) || (a || n))
or-of-same true m n = refl
or-of-same false m n = refl

or-left : (a m n : Bool) → (a || (m || n)) ≡ ((a || m) || n)
or-left true m n = refl
or-left false m n = refl

or-right : (b m n : Bool) → (b || (m || n)) ≡ (m || (b || n))
or-right true true n = refl
or-right true false n = refl
or-right false m n = refl

xor-left : (a m n : Bool) → (a ≡ true → n ≡ false) → (a || xor m n) ≡ xor (a || m) n
unfolding xor
xor-left true m n none = rw (none refl) refl
xor-left false m n none = refl

xor-right : (b m n : Bool) → (b ≡ true → m ≡ false) → (b || xor m n) ≡ xor m (b || n)
unfolding xor
xor-right true m n none = rw (none refl) refl
xor-right false m n none = refl

xor-same : (a m n : Bool) → (a ≡ true → m ≡ false) → (a ≡ true → n ≡ false) → xor m n ≡ xor (a || m) (a || n)
unfolding xor
xor-same true m n none neither = rw (none refl, neither refl) refl
xor-same false m n none neither = refl

xor-false : (a : Bool) → a ≡ xor a false
unfolding xor
xor-false true = refl
xor-false false = refl

false-xor : (a : Bool) → a ≡ xor false a
unfolding xor
false-xor true = refl
false-xor false = refl

pub or-turned : (a b : Bool) → (a || b) ≡ (b || a)
or-turned true true = refl
or-turned true false = refl
or-turned false true = refl
or-turned false false = refl

pub xor-turned : (a b : Bool) → xor a b ≡ xor b a
unfolding xor
xor-turned true true = refl
xor-turned true false = refl
xor-turned false true = refl
xor-turned false false = refl

and-false : (a : Bool) → (a && false) ≡ false
and-false true = refl
and-false false = refl

module _ {T : Type 0} {cmp : T → T → Ordering} (laws : IsTotalOrder cmp) where
  -- what is equal to x is in no list whose elements are above x
  none-equal : (x : T) (ys : List T) (q : T) → AllByRecursion (λ y. cmp x y ≡ Less) ys → is_eq (cmp x q) ≡ true → is_in cmp ys q ≡ false
  none-equal x ys q above same = absent laws q ys (above-equal laws q x ys (tied_back laws x q (equal-by (cmp x q) same)) above)

  -- a merge ascends
  module _ (both : Bool) where
    ascends-at : (x : T) (xs : List T) → IsStrictlySortedBy cmp (x ∷ xs)
        → ((ys : List T) → IsStrictlySortedBy cmp ys → IsStrictlySortedBy cmp (sorted_merge cmp both xs ys))
        → (ys : List T) → IsStrictlySortedBy cmp ys → IsStrictlySortedBy cmp (sorted_merge cmp both (x ∷ xs) ys)
    unfolding IsStrictlySortedBy
    ascends-at x xs up go [] rise = up
    ascends-at x xs up go (y ∷ ys) rise =
        by-order (cmp x y)
        (λ less. rw (merge-less cmp both x y xs ys less)
        (all-merged cmp (λ z. cmp x z ≡ Less) both xs (y ∷ ys) up.0 (above-more laws x y ys less rise.0), go (y ∷ ys) rise))
        (λ equal. rw (merge-equal cmp both x y xs ys equal)
        (either both (all-merged cmp (λ z. cmp x z ≡ Less) both xs ys up.0 (above-equal laws x y ys equal rise.0)) (go ys rise.1)))
        (λ greater. rw (merge-greater cmp both x y xs ys greater)
        (all-merged cmp (λ z. cmp y z ≡ Less) both (x ∷ xs) ys (above-more laws y x xs (reversed-back laws x y greater) up.0) rise.0, ascends-at x xs up go ys rise.1))
      where
        either : (b : Bool) → AllByRecursion (λ z. cmp x z ≡ Less) (sorted_merge cmp both xs ys) → IsStrictlySortedBy cmp (sorted_merge cmp both xs ys)
            → IsStrictlySortedBy cmp (cond b (x ∷ sorted_merge cmp both xs ys) (sorted_merge cmp both xs ys))
        either true above more = (above, more)
        either false above more = more

    pub merge-ascends : (xs ys : List T) → IsStrictlySortedBy cmp xs → IsStrictlySortedBy cmp ys → IsStrictlySortedBy cmp (sorted_merge cmp both xs ys)
    merge-ascends [] ys up rise = rise
    merge-ascends (x ∷ xs) ys up rise = ascends-at x xs up (λ zs. merge-ascends xs zs (rest-up laws x xs up)) ys rise

  -- the elements of a merge
  module _ (q : T) where
    same-test : (x y : T) → cmp x y ≡ Equal → is_eq (cmp x q) ≡ is_eq (cmp y q)
    same-test x y equal = ap is_eq (laws.congr x y q equal)

    abbrev has : List T → Bool
    has xs = is_in cmp xs q

    union-at : (x : T) (xs : List T) → ((ys : List T) → has (sorted_merge cmp true xs ys) ≡ (has xs || has ys))
        → (ys : List T) → has (sorted_merge cmp true (x ∷ xs) ys) ≡ (has (x ∷ xs) || has ys)
    union-at x xs go [] = sym (or-false (has (x ∷ xs)))
    union-at x xs go (y ∷ ys) =
        rw (in-first cmp x xs q, in-first cmp y ys q)
        (by-order (cmp x y)
        (λ less. rw (merge-less cmp true x y xs ys less, in-first cmp x (sorted_merge cmp true xs (y ∷ ys)) q, go (y ∷ ys), in-first cmp y ys q) (or-left (is_eq (cmp x q)) (has xs) (is_eq (cmp y q) || has ys)))
        (λ equal. rw (merge-equal cmp true x y xs ys equal, in-first cmp x (sorted_merge cmp true xs ys) q, go ys, sym (same-test x y equal)) (or-of-same (is_eq (cmp x q)) (has xs) (has ys)))
        (λ greater. rw (merge-greater cmp true x y xs ys greater, in-first cmp y (sorted_merge cmp true (x ∷ xs) ys) q, union-at x xs go ys, in-first cmp x xs q) (or-right (is_eq (cmp y q)) (is_eq (cmp x q) || has xs) (has ys))))

    pub in-union : (xs ys : List T) → has (sorted_merge cmp true xs ys) ≡ (has xs || has ys)
    in-union [] ys = refl
    in-union (x ∷ xs) ys = union-at x xs (in-union xs) ys

    apart-at : (x : T) (xs : List T) → IsStrictlySortedBy cmp (x ∷ xs)
        → ((ys : List T) → IsStrictlySortedBy cmp ys → has (sorted_merge cmp false xs ys) ≡ xor (has xs) (has ys))
        → (ys : List T) → IsStrictlySortedBy cmp ys → has (sorted_merge cmp false (x ∷ xs) ys) ≡ xor (has (x ∷ xs)) (has ys)
    unfolding IsStrictlySortedBy
    apart-at x xs up go [] rise = xor-false (has (x ∷ xs))
    apart-at x xs up go (y ∷ ys) rise =
        by-order (cmp x y)
        (λ less. rw (merge-less cmp false x y xs ys less, in-first cmp x (sorted_merge cmp false xs (y ∷ ys)) q, go (y ∷ ys) rise, in-first cmp x xs q)
        (xor-left (is_eq (cmp x q)) (has xs) (has (y ∷ ys)) (none-equal x (y ∷ ys) q (above-more laws x y ys less rise.0))))
        (λ equal. rw (merge-equal cmp false x y xs ys equal, go ys rise.1, in-first cmp x xs q, in-first cmp y ys q, sym (same-test x y equal))
        (xor-same (is_eq (cmp x q)) (has xs) (has ys) (none-equal x xs q up.0) (none-equal x ys q (above-equal laws x y ys equal rise.0))))
        (λ greater. rw (merge-greater cmp false x y xs ys greater, in-first cmp y (sorted_merge cmp false (x ∷ xs) ys) q, apart-at x xs up go ys rise.1, in-first cmp y ys q)
        (xor-right (is_eq (cmp y q)) (has (x ∷ xs)) (has ys) (none-equal y (x ∷ xs) q (above-more laws y x xs (reversed-back laws x y greater) up.0))))

    pub in-apart : (xs ys : List T) → IsStrictlySortedBy cmp xs → IsStrictlySortedBy cmp ys → has (sorted_merge cmp false xs ys) ≡ xor (has xs) (has ys)
    in-apart [] ys up rise = false-xor (has ys)
    in-apart (x ∷ xs) ys up rise = apart-at x xs up (λ zs. in-apart xs zs (rest-up laws x xs up)) ys rise

  -- equal elements are in the same lists
  pub in-alike : (x q : T) (ys : List T) → is_eq (cmp x q) ≡ true → is_in cmp ys x ≡ is_in cmp ys q
  in-alike x q [] same = refl
  in-alike x q (y ∷ ys) same =
      rw (in-first cmp y ys x, in-first cmp y ys q, alike_right laws x q y (equal-by (cmp x q) same), in-alike x q ys same) refl

  -- the elements that pass a test which does not tell equal ones apart
  pub in-filter : (p : T → Bool) (q : T) → ((x : T) → is_eq (cmp x q) ≡ true → p x ≡ p q) → (xs : List T)
      → is_in cmp (filter p xs) q ≡ (is_in cmp xs q && p q)
  in-filter p q alike [] = refl
  in-filter p q alike (x ∷ xs) = rw (in-first cmp x xs q) (by (p x) (is_eq (cmp x q)) refl refl (in-filter p q alike xs))
    where
      by : (b t : Bool) → p x ≡ b → is_eq (cmp x q) ≡ t → is_in cmp (filter p xs) q ≡ (is_in cmp xs q && p q)
          → is_in cmp (cond b (x ∷ filter p xs) (filter p xs)) q ≡ ((t || is_in cmp xs q) && p q)
      by true true passes same rest = rw (in-first cmp x (filter p xs) q, same) (sym passes ∙ alike x same)
      by true false passes same rest = rw (in-first cmp x (filter p xs) q, same) rest
      by false true passes same rest = rest ∙ rw (sym (alike x same) ∙ passes) (and-false (is_in cmp xs q))
      by false false passes same rest = rest
