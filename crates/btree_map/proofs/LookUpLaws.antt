-- What callers conclude of look-ups: what a key, a text or another query finds in a list of pairs after a pair was inserted or removed.
-- `inserted-key` and its like are for keys, `inserted-text` and its like for keys that are strings and texts that are sought; `inserted-by`,
-- `removed-here` and `removed-apart` for any query. What a string finds is what its text, `string_bytes` of it, finds: the two are equal as
-- they stand.
use Rattle.std.proofs.Common.{◌≡◌, ◌∙◌, ◌+◌, ℕ, zero, suc, Bool, true, false, cond, List, [], ◌∷◌, Option, Some, None, is_some, option_map, if◌then◌else◌, refl, sym, ap, arith, ◌⊎◌, inl, inr, Ordering, String}
use Rattle.std.specs.Prelude.{string_bytes, string_cmp}
use Rattle.std.proofs.lemmas.Bool.{cases_Bool}
use Rattle.std.specs.List.{AllByRecursion, count_by, insert, remove}
use Rattle.std.specs.List.Sorted.{IsStrictlySortedBy}
use Rattle.std.specs.Map.{IsKeyTest, keys_of, lookup_entry, remove_entry, set_value}
use Rattle.std.specs.Cmp.{IsTotalOrder, tied_itself}
use Rattle.std.specs.String.{string_cmp_total}
use Rattle.std.proofs.lemmas.Map.Lookups.{exact_bytes, exact_unsigned}
use Rattle.std.specs.Cmp.Lexicographic.{nat_list_cmp_total, slice_cmp}
use Rattle.std.specs.Ordering.{is_eq, is_lt, nat_cmp, ordering_reverse}
use Rattle.std.specs.declared.cmp.Ordering.TheVariants.{Less, Equal, Greater}
use Rattle.btree_item.specs.Keys.{Cuts}
use Rattle.btree_item.specs.KeyLaws.{cuts_by, cuts_of}
use Rattle.btree_item.specs.Pairs.{Ascends, before, found, found_value, inserted, with_value}
use Rattle.btree_item.proofs.KeyLemmas.{count_by-cons}
use Rattle.btree_ext.specs.Remove.{removed}
use Rattle.btree_map.specs.CallerLaws.{put-in, written}
use Rattle.btree_map.specs.Queries.{by_text}

-- ---- by tests of keys
module _ {K V : Type 0} where
  abbrev value_by : (K → Bool) → List (K × V) → Option V
  value_by test xs = option_map (λ x. x.1) (lookup_entry test xs)

  first : (test : K → Bool) (b : Bool) (x : K × V) (xs : List (K × V)) → test x.0 ≡ b → value_by test (x ∷ xs) ≡ cond b (Some x.1) (value_by test xs)
  first test true x xs is = ap (λ b. option_map (λ (y : K × V). y.1) (cond b (Some x) (lookup_entry test xs))) is
  first test false x xs is = ap (λ b. option_map (λ (y : K × V). y.1) (cond b (Some x) (lookup_entry test xs))) is

  -- tests that agree find the same
  same : (test other : K → Bool) (xs : List (K × V)) → ((x : K) → test x ≡ other x) → value_by test xs ≡ value_by other xs
  same test other xs agree = ap (λ t. value_by t xs) (λ i x. agree x i)

  -- a pair that does not pass
  put-beside : (test : K → Bool) (xs : List (K × V)) (i : ℕ) (x : K × V) → test x.0 ≡ false → value_by test (insert xs i x) ≡ value_by test xs
  put-beside test xs zero x is = first test false x xs is
  put-beside test [] (suc i) x is = first test false x [] is
  put-beside test (y ∷ ys) (suc i) x is = by (test y.0) refl (put-beside test ys i x is)
    where
      by : (b : Bool) → test y.0 ≡ b → value_by test (insert ys i x) ≡ value_by test ys → value_by test (y ∷ insert ys i x) ≡ value_by test (y ∷ ys)
      by b e later = first test b y (insert ys i x) e ∙ ap (λ o. cond b (Some y.1) o) later ∙ sym (first test b y ys e)

  module _ (test other : K → Bool) (apart : (x : K) → test x ≡ true → other x ≡ false) where
    written-beside : (xs : List (K × V)) (w : V) → value_by other (set_value test xs w) ≡ value_by other xs
    written-beside [] w = refl
    written-beside (x ∷ xs) w = by (test x.0) refl (written-beside xs w)
      where
        by : (b : Bool) → test x.0 ≡ b → value_by other (set_value test xs w) ≡ value_by other xs → value_by other (set_value test (x ∷ xs) w) ≡ value_by other (x ∷ xs)
        by true e later =
            ap (λ b. value_by other (cond b ((x.0, w) ∷ xs) (x ∷ set_value test xs w))) e
            ∙ first other false (x.0, w) xs (apart x.0 e) ∙ sym (first other false x xs (apart x.0 e))
        by false e later =
            ap (λ b. value_by other (cond b ((x.0, w) ∷ xs) (x ∷ set_value test xs w))) e
            ∙ first other (other x.0) x (set_value test xs w) refl ∙ ap (λ o. cond (other x.0) (Some x.1) o) later ∙ sym (first other (other x.0) x xs refl)

    -- a pair is taken out where a test passes
    taken-beside : (xs : List (K × V)) → value_by other (remove_entry test xs) ≡ value_by other xs
    taken-beside [] = refl
    taken-beside (x ∷ xs) = by (test x.0) refl (taken-beside xs)
      where
        by : (b : Bool) → test x.0 ≡ b → value_by other (remove_entry test xs) ≡ value_by other xs → value_by other (remove_entry test (x ∷ xs)) ≡ value_by other (x ∷ xs)
        by true e later = ap (λ b. value_by other (cond b xs (x ∷ remove_entry test xs))) e ∙ sym (first other false x xs (apart x.0 e))
        by false e later =
            ap (λ b. value_by other (cond b xs (x ∷ remove_entry test xs))) e
            ∙ first other (other x.0) x (remove_entry test xs) refl ∙ ap (λ o. cond (other x.0) (Some x.1) o) later ∙ sym (first other (other x.0) x xs refl)

-- ---- by a query that divides the keys
abbrev pub at_query : {K Q : Type 0} → (K → Q → Ordering) → Q → K → Bool
at_query cmp q x = is_eq (cmp x q)

module _ {K Q V : Type 0} {ord : K → K → Ordering} (cmp : K → Q → Ordering) (cuts : Cuts ord cmp) (q : Q) where
  abbrev is_below : K × V → Bool
  is_below x = is_lt (cmp x.0 q)

  abbrev AreAbove : List (K × V) → Type 0
  AreAbove ys = AllByRecursion (λ (y : K × V). cmp y.0 q ≡ Greater) ys

  is-above : (x : K) (o : Ordering) → cmp x q ≡ o → is_lt o ≡ false → (ys : List (K × V)) → AllByRecursion (λ y. ord x y ≡ Less) (keys_of ys) → AreAbove ys
  is-above x o is not [] up = tt
  is-above x o is not (y ∷ ys) up = (cuts.above q x y.0 (ap is_lt is ∙ not) up.0, is-above x o is not ys up.1)

  none-above : (ys : List (K × V)) → AreAbove ys → lookup_entry (at_query cmp q) ys ≡ None
  none-above [] up = refl
  none-above (y ∷ ys) up = ap (λ o. cond (is_eq o) (Some y) (lookup_entry (at_query cmp q) ys)) up.0 ∙ none-above ys up.1

  none-below : (ys : List (K × V)) → AreAbove ys → count_by is_below ys ≡ 0
  none-below [] up = refl
  none-below (y ∷ ys) up = count_by-cons is_below y ys ∙ ap (λ o. cond (is_lt o) 1 0 + count_by is_below ys) up.0 ∙ ap (λ n. 0 + n) (none-below ys up.1)

  -- the list without the pair of a key is that without the entry where the test passes
  without : (xs : List (K × V)) → Ascends ord xs → is_some (found cmp q xs) ≡ true → remove xs (before cmp q xs) ≡ remove_entry (at_query cmp q) xs
  unfolding IsStrictlySortedBy
  without [] up some = absurd (cc)
  without (x ∷ xs) up some = by (cmp x.0 q) refl (without xs up.1)
    where
      by : (o : Ordering) → cmp x.0 q ≡ o → (is_some (found cmp q xs) ≡ true → remove xs (before cmp q xs) ≡ remove_entry (at_query cmp q) xs)
          → remove (x ∷ xs) (before cmp q (x ∷ xs)) ≡ remove_entry (at_query cmp q) (x ∷ xs)
      by Less e later =
          let some-later : is_some (found cmp q xs) ≡ true = sym (ap (λ o. is_some (cond (is_eq o) (Some x) (lookup_entry (at_query cmp q) xs))) e) ∙ some in
          let next : 1 + count_by is_below xs ≡ suc (count_by is_below xs) = omega arith in
          ap (remove (x ∷ xs)) (count_by-cons is_below x xs)
          ∙ ap (λ o. remove (x ∷ xs) (cond (is_lt o) 1 0 + count_by is_below xs)) e
          ∙ ap (remove (x ∷ xs)) next
          ∙ ap (λ l. x ∷ l) (later some-later)
          ∙ sym (ap (λ o. cond (is_eq o) xs (x ∷ remove_entry (at_query cmp q) xs)) e)
      by Equal e later =
          ap (remove (x ∷ xs)) (count_by-cons is_below x xs)
          ∙ ap (λ o. remove (x ∷ xs) (cond (is_lt o) 1 0 + count_by is_below xs)) e
          ∙ ap (λ n. remove (x ∷ xs) (0 + n)) (none-below xs (is-above x.0 Equal e refl xs up.0))
          ∙ sym (ap (λ o. cond (is_eq o) xs (x ∷ remove_entry (at_query cmp q) xs)) e)
      by Greater e later =
          let none = none-above xs (is-above x.0 Greater e refl xs up.0) in
          let some-later : is_some (found cmp q xs) ≡ true = sym (ap (λ o. is_some (cond (is_eq o) (Some x) (lookup_entry (at_query cmp q) xs))) e) ∙ some in
          absurd (cc)

  taken-here : (xs : List (K × V)) → Ascends ord xs → value_by (at_query cmp q) (remove_entry (at_query cmp q) xs) ≡ None
  unfolding IsStrictlySortedBy
  taken-here [] up = refl
  taken-here (x ∷ xs) up = by (cmp x.0 q) refl (taken-here xs up.1)
    where
      by : (o : Ordering) → cmp x.0 q ≡ o → value_by (at_query cmp q) (remove_entry (at_query cmp q) xs) ≡ None → value_by (at_query cmp q) (remove_entry (at_query cmp q) (x ∷ xs)) ≡ None
      by Equal e later =
          ap (λ o. value_by (at_query cmp q) (cond (is_eq o) xs (x ∷ remove_entry (at_query cmp q) xs))) e
          ∙ ap (option_map (λ (y : K × V). y.1)) (none-above xs (is-above x.0 Equal e refl xs up.0))
      by Less e later = ap (λ o. value_by (at_query cmp q) (cond (is_eq o) xs (x ∷ remove_entry (at_query cmp q) xs))) e ∙ first (at_query cmp q) false x (remove_entry (at_query cmp q) xs) (ap is_eq e) ∙ later
      by Greater e later = ap (λ o. value_by (at_query cmp q) (cond (is_eq o) xs (x ∷ remove_entry (at_query cmp q) xs))) e ∙ first (at_query cmp q) false x (remove_entry (at_query cmp q) xs) (ap is_eq e) ∙ later

  absent : (xs : List (K × V)) → is_some (found cmp q xs) ≡ false → found cmp q xs ≡ None
  absent xs none = by (found cmp q xs) refl
    where
      by : (o : Option (K × V)) → found cmp q xs ≡ o → found cmp q xs ≡ None
      by None e = e
      by (Some x) e = absurd (let h = ap is_some e in cc)

  -- a query finds nothing once what it was equal to is removed
  pub removed-here : (xs : List (K × V)) → Ascends ord xs → found_value cmp q (removed cmp q xs) ≡ None
  removed-here xs up = by (cases_Bool (is_some (found cmp q xs)))
    where
      by : (is_some (found cmp q xs) ≡ true) ⊎ (is_some (found cmp q xs) ≡ false) → found_value cmp q (removed cmp q xs) ≡ None
      by (inl some) =
          ap (λ b. found_value cmp q (if b then remove xs (before cmp q xs) else xs)) some
          ∙ ap (found_value cmp q) (without xs up some) ∙ taken-here xs up
      by (inr none) =
          ap (λ b. found_value cmp q (if b then remove xs (before cmp q xs) else xs)) none
          ∙ ap (option_map (λ (y : K × V). y.1)) (absent xs none)

  -- another one finds what it found before, if no key is equal to both
  pub removed-apart : {R : Type 0} (other : K → R → Ordering) (r : R) → ((x : K) → is_eq (cmp x q) ≡ true → is_eq (other x r) ≡ false)
      → (xs : List (K × V)) → Ascends ord xs → found_value other r (removed cmp q xs) ≡ found_value other r xs
  removed-apart other r apart xs up = by (cases_Bool (is_some (found cmp q xs)))
    where
      by : (is_some (found cmp q xs) ≡ true) ⊎ (is_some (found cmp q xs) ≡ false) → found_value other r (removed cmp q xs) ≡ found_value other r xs
      by (inl some) =
          ap (λ b. found_value other r (if b then remove xs (before cmp q xs) else xs)) some
          ∙ ap (found_value other r) (without xs up some) ∙ taken-beside (at_query cmp q) (λ y. is_eq (other y r)) apart xs
      by (inr none) = ap (λ b. found_value other r (if b then remove xs (before cmp q xs) else xs)) none

-- ---- after an insertion
pub equal-from : (c : Ordering) → is_eq c ≡ true → c ≡ Equal
equal-from Equal e = refl
equal-from Less e = absurd (cc)
equal-from Greater e = absurd (cc)

eq-reverse : (c : Ordering) → is_eq (ordering_reverse c) ≡ is_eq c
eq-reverse Less = refl
eq-reverse Equal = refl
eq-reverse Greater = refl

module _ {K : Type 0} {ord : K → K → Ordering} (o : IsTotalOrder ord) where
  flip : (x y : K) → is_eq (ord x y) ≡ is_eq (ord y x)
  flip x y = ap is_eq (o.antisymm x y) ∙ eq-reverse (ord y x)

  -- a key is equal to the keys that are equal to one
  pub key-test : (q : K) → IsKeyTest (λ x y. is_eq (ord x y)) (at_query ord q)
  key-test q x y at = flip y q ∙ ap is_eq (sym (o.congr x q y (equal-from (ord x q) at)))

  -- by a query that is equal to the keys that are equal to one
  module _ {Q V : Type 0} (cmp : K → Q → Ordering) (q : Q) (one : IsKeyTest (λ x y. is_eq (ord x y)) (λ y. is_eq (cmp y q))) (k : K) (w : V) (xs : List (K × V)) where
    abbrev by_key : K → Bool
    by_key y = is_eq (ord y k)

    abbrev by_query : K → Bool
    by_query y = is_eq (cmp y q)

    agree : by_query k ≡ true → (y : K) → by_key y ≡ by_query y
    agree is y = flip y k ∙ sym (one k y is)

    differ : by_query k ≡ false → (y : K) → by_key y ≡ true → by_query y ≡ false
    differ not y at = by (cases_Bool (by_query y))
      where
        by : (by_query y ≡ true) ⊎ (by_query y ≡ false) → by_query y ≡ false
        by (inr is) = is
        by (inl is) = absurd (let h = one y k is in cc)

    -- it finds the value that was inserted if it is equal to its key, and what it found before if not
    pub inserted-by : found_value cmp q (inserted ord k w xs) ≡ cond (by_query k) (Some w) (found_value cmp q xs)
    inserted-by = by (cases_Bool (by_query k)) (cases_Bool (is_some (found ord k xs)))
      where
        there : List (K × V)
        there = insert xs (before ord k xs) (k, w)

        is-written : is_some (found ord k xs) ≡ true → inserted ord k w xs ≡ with_value ord k w xs
        is-written some = ap (λ b. if b then with_value ord k w xs else there) some

        is-put : is_some (found ord k xs) ≡ false → inserted ord k w xs ≡ there
        is-put none = ap (λ b. if b then with_value ord k w xs else there) none

        absent-too : by_query k ≡ true → is_some (found ord k xs) ≡ false → lookup_entry by_query xs ≡ None
        absent-too is none = ap (λ t. lookup_entry t xs) (λ i y. sym (agree is y) i) ∙ by_none (found ord k xs) refl
          where
            by_none : (p : Option (K × V)) → found ord k xs ≡ p → found ord k xs ≡ None
            by_none None e = e
            by_none (Some x) e = absurd (let h = ap is_some e in cc)

        by : (by_query k ≡ true) ⊎ (by_query k ≡ false) → (is_some (found ord k xs) ≡ true) ⊎ (is_some (found ord k xs) ≡ false)
            → found_value cmp q (inserted ord k w xs) ≡ cond (by_query k) (Some w) (found_value cmp q xs)
        by (inl is) (inl some) =
            ap (found_value cmp q) (is-written some)
            ∙ sym (same by_key by_query (with_value ord k w xs) (agree is))
            ∙ written by_key xs w some
            ∙ sym (ap (λ b. cond b (Some w) (found_value cmp q xs)) is)
        by (inl is) (inr none) =
            ap (found_value cmp q) (is-put none) ∙ put-in by_query xs (before ord k xs) (k, w) is (absent-too is none)
            ∙ sym (ap (λ b. cond b (Some w) (found_value cmp q xs)) is)
        by (inr not) (inl some) =
            ap (found_value cmp q) (is-written some) ∙ written-beside by_key by_query (differ not) xs w
            ∙ sym (ap (λ b. cond b (Some w) (found_value cmp q xs)) not)
        by (inr not) (inr none) =
            ap (found_value cmp q) (is-put none) ∙ put-beside by_query xs (before ord k xs) (k, w) not
            ∙ sym (ap (λ b. cond b (Some w) (found_value cmp q xs)) not)

-- ---- at keys
module _ {K V : Type 0} {ord : K → K → Ordering} (o : IsTotalOrder ord) (k : K) (xs : List (K × V)) where
  -- a key finds what was inserted under it
  pub inserted-key : (w : V) → found_value ord k (inserted ord k w xs) ≡ Some w
  inserted-key w = inserted-by o ord k (key-test o k) k w xs ∙ ap (λ c. cond (is_eq c) (Some w) (found_value ord k xs)) (tied_itself o k)

  -- another one finds what it found before
  pub inserted-other : (w : V) (q : K) → is_eq (ord k q) ≡ false → found_value ord q (inserted ord k w xs) ≡ found_value ord q xs
  inserted-other w q apart = inserted-by o ord q (key-test o q) k w xs ∙ ap (λ b. cond b (Some w) (found_value ord q xs)) apart

  -- a key that was removed finds nothing
  pub removed-key : Ascends ord xs → found_value ord k (removed ord k xs) ≡ None
  removed-key up = removed-here ord (cuts_of o) k xs up

  -- another one finds what it found before
  pub removed-other : (q : K) → is_eq (ord k q) ≡ false → Ascends ord xs → found_value ord q (removed ord k xs) ≡ found_value ord q xs
  removed-other q apart up = removed-apart ord (cuts_of o) k ord q (λ x at. ap is_eq (o.congr x k q (equal-from (ord x k) at)) ∙ apart) xs up

-- numbers that differ are no equal keys
pub number-apart : (k q : ℕ) → (k ≡ q → ⊥) → is_eq (nat_cmp k q) ≡ false
number-apart k q differ = by (nat_cmp k q) refl
  where
    by : (c : Ordering) → nat_cmp k q ≡ c → is_eq (nat_cmp k q) ≡ false
    by Less e = ap is_eq e
    by Equal e = absurd (differ (exact_unsigned k q e))
    by Greater e = ap is_eq e

-- ---- at texts, for keys that are strings
module _ {A : Type 0} where
  -- a string is equal to its text
  pub text-same : (word : String A) (text : List ℕ) → string_bytes word ≡ text → is_eq (by_text word text) ≡ true
  text-same word text same = ap (λ t. is_eq (slice_cmp nat_cmp t text)) same ∙ ap is_eq (tied_itself nat_list_cmp_total text)

  -- and to no other
  pub text-apart : (word : String A) (text : List ℕ) → (string_bytes word ≡ text → ⊥) → is_eq (by_text word text) ≡ false
  text-apart word text differ = by (by_text word text) refl
    where
      by : (c : Ordering) → by_text word text ≡ c → is_eq (by_text word text) ≡ false
      by Less e = ap is_eq e
      by Equal e = absurd (differ (exact_bytes (string_bytes word) text e))
      by Greater e = ap is_eq e

  text-test : (text : List ℕ) → IsKeyTest (λ (x y : String A). is_eq (string_cmp x y)) (at_query by_text text)
  text-test text x y at = flip nat_list_cmp_total (string_bytes y) text
      ∙ ap is_eq (sym (nat_list_cmp_total.congr (string_bytes x) text (string_bytes y) (equal-from (by_text x text) at)))

  -- a text divides strings in their order
  pub text-cuts : Cuts {K = String A} string_cmp by_text
  text-cuts = cuts_by nat_list_cmp_total string_bytes (λ t. t)

  -- no string is equal to two texts
  one-text : (text other : List ℕ) → (text ≡ other → ⊥) → (word : String A) → is_eq (by_text word text) ≡ true → is_eq (by_text word other) ≡ false
  one-text text other differ word at =
      text-apart word other (λ same. differ (sym (exact_bytes (string_bytes word) text (equal-from (by_text word text) at)) ∙ same))

  module _ {V : Type 0} (xs : List (String A × V)) where
    -- a text finds the value that was inserted under a string of it, and else what it found before
    pub inserted-text : (word : String A) (w : V) (text : List ℕ)
        → found_value by_text text (inserted string_cmp word w xs) ≡ cond (is_eq (by_text word text)) (Some w) (found_value by_text text xs)
    inserted-text word w text = inserted-by string_cmp_total by_text text (text-test text) word w xs

    -- another text than that of the string finds what it found before
    pub inserted-text-other : (word : String A) (w : V) (text : List ℕ) → (string_bytes word ≡ text → ⊥)
        → found_value by_text text (inserted string_cmp word w xs) ≡ found_value by_text text xs
    inserted-text-other word w text differ = inserted-text word w text ∙ ap (λ b. cond b (Some w) (found_value by_text text xs)) (text-apart word text differ)

    -- a text whose string was removed finds nothing
    pub removed-text : (text : List ℕ) → Ascends string_cmp xs → found_value by_text text (removed by_text text xs) ≡ None
    removed-text text up = removed-here by_text text-cuts text xs up

    -- another text finds what it found before
    pub removed-text-other : (text other : List ℕ) → (text ≡ other → ⊥) → Ascends string_cmp xs
        → found_value by_text other (removed by_text text xs) ≡ found_value by_text other xs
    removed-text-other text other differ up = removed-apart by_text text-cuts text by_text other (one-text text other differ) xs up

pub ruleset look_up_laws = (
  inserted-key,
  inserted-other,
  removed-key,
  removed-other,
  number-apart,
  text-same,
  text-apart,
  inserted-text,
  inserted-text-other,
  removed-text,
  removed-text-other,
)
