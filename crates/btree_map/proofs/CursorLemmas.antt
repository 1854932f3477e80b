-- A step of a cursor: the address after or before that of an item, and the value written at it.
use Rattle.btree_map.proofs.Common.{◌≡◌, ◌∙◌, ℕ, zero, suc, ◌+◌, ◌-◌, ◌<◌, ◌≤◌, List, [], ◌∷◌, Option, Some, None, length, sym, ap, set, slice_get, subst, arith, same_Some, Ordering, Address, item_addresses_of, TreeState, item_of, pairs_of, prior, IsNext, value_written, WritesPlace, or_nowhere, written-addresses}
use Rattle.btree_find.specs.Navigation.{IsItemBefore, IsPrevious}
use Rattle.btree_ext.specs.Exchange.{IsValueExchanged}
use Rattle.btree_map.proofs.ListedItems.{listed-item, listed-occupied, listed-place}

pub get_none : {X : Type 0} (list : List X) (n : ℕ) → slice_get list n ≡ None → length list ≤ n
get_none [] n none = omega arith
get_none (x ∷ xs) zero none = absurd (cc)
get_none (x ∷ xs) (suc n) none = let low = get_none xs n none in omega arith

pub before-listed : {K V : Type 0} (s : TreeState K V) (n : ℕ) (found : Option Address) → IsItemBefore s n found → found ≡ prior (item_addresses_of s) n
before-listed s zero found is = is
before-listed s (suc n) found is = is.listed

module _ {K V : Type 0} (s : TreeState K V) (a : Address) (place : ℕ) (listed : slice_get (item_addresses_of s) place ≡ Some a) where
  pub listed-after : (found : Option Address) → IsNext s a found → found ≡ slice_get (item_addresses_of s) (place + 1)
  listed-after found n =
      let same = n.has.only place (listed-place s a place listed) in
      let one : suc n.place ≡ place + 1 = omega arith in
      (n.after (listed-occupied s a place listed)).listed ∙ ap (slice_get (item_addresses_of s)) one

  pub listed-before : (found : Option Address) → IsPrevious s a found → found ≡ prior (item_addresses_of s) place
  listed-before found p =
      let same : place ≡ p.place = p.has.only place (listed-place s a place listed) in
      before-listed s p.place found p.item ∙ ap (prior (item_addresses_of s)) (sym same)

  pub listed-written : {cmp : K → K → Ordering} (k : K) (was w : V) → item_of s a ≡ Some (k, was) → IsValueExchanged s (value_written s a w) a cmp was w
      → WritesPlace cmp s (value_written s a w) a place k was w
  listed-written k was w here x =
      let at : x.exchanged.place ≡ place = sym (x.exchanged.here.has.only place (listed-place s a place listed)) in
      let key : x.key ≡ k = ap (λ (p : K × V). p.0) (same_Some (x.key, was) (k, was) (sym x.had ∙ here)) in
      record {
        listed = listed;
        item = sym (listed-item s a place listed) ∙ here;
        pairs = x.exchanged.pairs ∙ (λ i. set (pairs_of s) (at i) (key i, w));
        addresses = written-addresses s a w;
        exchanged = x;
      }

-- the same for the address of a cursor, which is one of these
module _ {K V : Type 0} (s : TreeState K V) (found : Option Address) (a : Address) (is : found ≡ Some a) (place : ℕ)
    (stands : found ≡ slice_get (item_addresses_of s) place) where
  pub stands-listed : slice_get (item_addresses_of s) place ≡ Some a
  stands-listed = sym stands ∙ is

  pub stands-state : (w : V) → value_written s a w ≡ value_written s (or_nowhere found) w
  stands-state w = ap (λ o. value_written s (or_nowhere o) w) (sym is)

  pub stands-pair : (x : K × V) → item_of s a ≡ Some x → slice_get (pairs_of s) place ≡ Some x
  stands-pair x here = sym (listed-item s a place stands-listed) ∙ here

  pub stands-written : {cmp : K → K → Ordering} (k : K) (was w : V) → item_of s a ≡ Some (k, was) → IsValueExchanged s (value_written s a w) a cmp was w
      → WritesPlace cmp s (value_written s (or_nowhere found) w) (or_nowhere found) place k was w
  stands-written {cmp} k was w here x =
      subst (λ o. WritesPlace cmp s (value_written s (or_nowhere o) w) (or_nowhere o) place k was w) (sym is)
      (listed-written s a place stands-listed k was w here x)

  pub stands-next : (after : Option Address)
      → (slice_get (item_addresses_of s) place ≡ Some a → after ≡ slice_get (item_addresses_of s) (place + 1))
      → after ≡ slice_get (item_addresses_of s) (place + 1)
  stands-next after next = next stands-listed

  pub stands-previous : (before : Option Address)
      → (slice_get (item_addresses_of s) place ≡ Some a → before ≡ prior (item_addresses_of s) place)
      → before ≡ prior (item_addresses_of s) place
  stands-previous before previous = previous stands-listed

pub prior-some : {X : Type 0} (list : List X) (n : ℕ) → 0 < n → prior list n ≡ slice_get list (n - 1)
prior-some list zero some = absurd (omega arith)
prior-some list (suc n) some = let one : suc n - 1 ≡ n = omega arith in ap (slice_get list) (sym one)

-- the address before a place is at the place one less
pub last-stands : {X : Type 0} (list : List X) (last : Option X) (front n : ℕ) → front < n → last ≡ prior list n → last ≡ slice_get list (n - 1)
last-stands list last front n some is = is ∙ prior-some list n (omega arith)

pub none-last : {X : Type 0} (list : List X) (last : Option X) (front n : ℕ) → front < n → n ≤ length list → last ≡ prior list n → last ≡ None → ⊥
none-last list last front n some low is none = let past = get_none list (n - 1) (sym (last-stands list last front n some is) ∙ none) in omega arith

-- an address that stands at a place stands there still, once a value was written
module _ {K V : Type 0} (s : TreeState K V) (a : Address) (w : V) where
  pub stays-first : (found : Option Address) (place : ℕ) → found ≡ slice_get (item_addresses_of s) place
      → found ≡ slice_get (item_addresses_of (value_written s a w)) place
  stays-first found place is = is ∙ ap (λ l. slice_get l place) (sym (written-addresses s a w))

  pub stays-last : (found : Option Address) (place : ℕ) → found ≡ prior (item_addresses_of s) place
      → found ≡ prior (item_addresses_of (value_written s a w)) place
  stays-last found place is = is ∙ ap (λ l. prior l place) (sym (written-addresses s a w))

  pub stays-within : (n : ℕ) → n ≤ length (item_addresses_of s) → n ≤ length (item_addresses_of (value_written s a w))
  stays-within n low = subst (λ l. n ≤ length l) (sym (written-addresses s a w)) low
