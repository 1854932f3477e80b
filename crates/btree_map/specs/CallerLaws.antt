-- What callers conclude: from navigation, where the end of a map is, in the words of insertions there; and what a key or another query finds
-- in a list after its value was written or its pair inserted; and how many pairs a range has.
use Rattle.std.proofs.Common.{◌≡◌, ◌∙◌, ◌≤◌, ◌<◌, ◌&&◌, ℕ, zero, suc, Bool, true, false, cond, not, List, [], ◌∷◌, Option, Some, None, IfSome, is_some, length, nat_le, nat_lt, option_map, drop, if◌then◌else◌, refl, sym, ap, arith}
use Rattle.std.proofs.lemmas.Bool.{le-leb, lt-leb}
use Rattle.std.proofs.lemmas.Bool.Decides.{nat_tests}
use Rattle.std.proofs.lemmas.Cmp.{ranked}
use Rattle.std.proofs.lemmas.List.Sums.{count_by-le-length, length-filter}
use Rattle.std.specs.BTreeMap.Range.{entries_between, range_contains}
use Rattle.std.specs.declared.ops.Bound.{Bound}
use Rattle.std.specs.declared.ops.Bound.TheVariants.{Excluded, Included}
use Rattle.std.specs.List.{count_by, insert}
use Rattle.std.specs.Map.{lookup_entry, set_value}
use Rattle.std.specs.Ordering.{is_eq, is_le, nat_cmp}
use Rattle.std.specs.declared.cmp.Ordering.{Ordering}
use Rattle.std.specs.declared.cmp.Ordering.TheVariants.{Equal, Greater, Less}
use Rattle.btree_item.specs.Pairs.{before, found, found_value, inserted, with_value}
use Rattle.btree_item.specs.Address.{Address}
use Rattle.btree_laws.specs.TreeState.{TreeState, pairs_of}
use Rattle.btree_find.specs.Navigation.{IsItemBefore}
use Rattle.btree_map.specs.Ascending.{IsLastPair}

-- the address of the item before the end is that of the last pair
pub last-pair : {K V : Type 0} (s : TreeState K V) (n : ℕ) (found : Option Address) → n ≡ length (pairs_of s) → IsItemBefore s n found → IfSome found (IsLastPair s)
last-pair s zero None is at = tt
last-pair s zero (Some a) is at = absurd (cc)
last-pair s (suc n) None is at = tt
last-pair s (suc n) (Some a) is at = record { place = n; last = is; here = at.here }

module _ {K V : Type 0} (test : K → Bool) where
  pub written : (xs : List (K × V)) (w : V) → is_some (lookup_entry test xs) ≡ true → option_map (λ x. x.1) (lookup_entry test (set_value test xs w)) ≡ Some w
  written [] w some = absurd (cc)
  written (x ∷ xs) w some = by (test x.0) refl (written xs w)
    where
      by : (b : Bool) → test x.0 ≡ b → (is_some (lookup_entry test xs) ≡ true → option_map (λ y. y.1) (lookup_entry test (set_value test xs w)) ≡ Some w)
          → option_map (λ y. y.1) (lookup_entry test (set_value test (x ∷ xs) w)) ≡ Some w
      by true e later =
          ap (λ b. option_map (λ y. y.1) (lookup_entry test (cond b ((x.0, w) ∷ xs) (x ∷ set_value test xs w)))) e
          ∙ ap (λ b. option_map (λ y. y.1) (cond b (Some (x.0, w)) (lookup_entry test xs))) e
      by false e later =
          ap (λ b. option_map (λ y. y.1) (lookup_entry test (cond b ((x.0, w) ∷ xs) (x ∷ set_value test xs w)))) e
          ∙ ap (λ b. option_map (λ y. y.1) (cond b (Some x) (lookup_entry test (set_value test xs w)))) e
          ∙ later (sym (ap (λ b. is_some (cond b (Some x) (lookup_entry test xs))) e) ∙ some)

  pub put-in : (xs : List (K × V)) (i : ℕ) (x : K × V) → test x.0 ≡ true → lookup_entry test xs ≡ None
      → option_map (λ y. y.1) (lookup_entry test (insert xs i x)) ≡ Some x.1
  put-in xs zero x is none = ap (λ b. option_map (λ y. y.1) (cond b (Some x) (lookup_entry test (drop 0 xs)))) is
  put-in [] (suc i) x is none = ap (λ b. option_map (λ y. y.1) (cond b (Some x) (lookup_entry test []))) is
  put-in (y ∷ ys) (suc i) x is none = by (test y.0) refl (put-in ys i x is)
    where
      by : (b : Bool) → test y.0 ≡ b → (lookup_entry test ys ≡ None → option_map (λ z. z.1) (lookup_entry test (insert ys i x)) ≡ Some x.1)
          → option_map (λ z. z.1) (lookup_entry test (y ∷ insert ys i x)) ≡ Some x.1
      by true e later = absurd (let h = sym (ap (λ b. cond b (Some y) (lookup_entry test ys)) e) ∙ none in cc)
      by false e later =
          ap (λ b. option_map (λ z. z.1) (cond b (Some y) (lookup_entry test (insert ys i x)))) e
          ∙ later (sym (ap (λ b. cond b (Some y) (lookup_entry test ys)) e) ∙ none)

module _ {K Q V : Type 0} (cmp : K → Q → Ordering) (k : Q) where
  -- a value that was written where the query is equal to a key is found by it
  pub found-written : (xs : List (K × V)) (w : V) → is_some (found cmp k xs) ≡ true → found_value cmp k (with_value cmp k w xs) ≡ Some w
  found-written xs w some = written (λ q. is_eq (cmp q k)) xs w some

  -- a pair that was inserted under a key that the query is equal to is found by it, where neither was there
  pub found-inserted : (ord : K → K → Ordering) (x : K) (w : V) (xs : List (K × V)) → cmp x k ≡ Equal → found ord x xs ≡ None → found cmp k xs ≡ None
      → found_value cmp k (inserted ord x w xs) ≡ Some w
  found-inserted ord x w xs same absent none =
      let there : List (K × V) = insert xs (before ord x xs) (x, w) in
      let put : inserted ord x w xs ≡ there = ap (λ o. if is_some o then with_value ord x w xs else there) absent in
      ap (found_value cmp k) put ∙ put-in (λ q. is_eq (cmp q k)) xs (before ord x xs) (x, w) (ap is_eq same) none

-- ---- ranges
-- a range has as many pairs as there are keys between its bounds
pub range-count : {K V : Type 0} (cmp : K → K → Ordering) (low high : Bound K) (xs : List (K × V))
    → length (entries_between cmp low high xs) ≡ count_by (λ x. range_contains cmp low high x.0) xs
range-count cmp low high xs = length-filter (λ x. range_contains cmp low high x.0) xs

-- it has at most as many as the map
pub range-length : {K V : Type 0} (cmp : K → K → Ordering) (low high : Bound K) (xs : List (K × V)) → length (entries_between cmp low high xs) ≤ length xs
range-length cmp low high xs =
    let count = range-count cmp low high xs in
    let most = count_by-le-length (λ x. range_contains cmp low high x.0) xs in
    omega (arith, count, most)

le-cmp : (a b : ℕ) → is_le (nat_cmp a b) ≡ nat_le a b
le-cmp a b = by (nat_cmp a b) refl
  where
    by : (o : Ordering) → o ≡ nat_cmp a b → is_le o ≡ nat_le a b
    by Less is = let less : a < b = ranked a b Less is in sym (le-leb a b (omega arith))
    by Equal is = let same : a ≡ b = ranked a b Equal is in sym (le-leb a b (omega arith))
    by Greater is = sym (lt-leb a b (ranked a b Greater is))

not-le : (a b : ℕ) → not (nat_le b a) ≡ nat_lt a b
not-le a b = grind (arith, nat_tests)

number-between : (low high n : ℕ) → range_contains nat_cmp (Included low) (Excluded high) n ≡ (nat_le low n && nat_lt n high)
number-between low high n =
    let from = le-cmp low n in
    let to : not (is_le (nat_cmp high n)) ≡ nat_lt n high = ap not (le-cmp high n) ∙ not-le n high in
    cc

-- a range of numbers has as many as there are keys from the one up to the other
pub keys-counted : {V : Type 0} (low high : ℕ) (xs : List (ℕ × V))
    → length (entries_between nat_cmp (Included low) (Excluded high) xs) ≡ count_by (λ x. nat_le low x.0 && nat_lt x.0 high) xs
keys-counted low high xs = range-count nat_cmp (Included low) (Excluded high) xs ∙ ap (λ p. count_by p xs) (λ i x. number-between low high x.0 i)

pub ruleset map_laws = (last-pair, found-written, found-inserted, range-length, keys-counted)
