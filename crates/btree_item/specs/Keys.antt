-- Where a key is, or would be, in an ascending list of keys.
-- `search` cites `key_place`, and `binary_search_min` cites `IsLastAtMost`. The other words are for the loops below
-- them.
use Rattle.std.specs.Prelude.{◌≡◌, ℕ, ◌<◌, ◌≤◌, Bool, true, false, suc, List, Some, Result, Ok, Err, length, slice_get, if◌then◌else◌}
use Rattle.std.specs.List.{count_by, list_any}
use Rattle.std.specs.declared.cmp.Ordering.{Ordering}
use Rattle.std.specs.declared.cmp.Ordering.TheVariants.{Less, Greater}
use Rattle.std.specs.Ordering.{is_eq, is_le, is_lt}

-- Each query q divides the keys in their order: where a key is not below q, every later key is above it. So the keys below q come first,
-- then at most one that is equal to it, and then those above.
pub record Cuts {K Q : Type 0} (ord : K → K → Ordering) (cmp : K → Q → Ordering) : Type 0 where
  pub above : (q : Q) (x y : K) → is_lt (cmp x q) ≡ false → ord x y ≡ Less → cmp y q ≡ Greater

-- A key may be sought by another key or by a query of another type: `cmp x k` says on which side of k the key x is.
module _ {K Q : Type 0} (cmp : K → Q → Ordering) where
  -- how many keys are below k
  abbrev pub count_below : Q → List K → ℕ
  count_below k keys = count_by (λ q. is_lt (cmp q k)) keys

  -- whether some key is equal to k
  abbrev pub has_key : Q → List K → Bool
  has_key k keys = list_any (λ q. is_eq (cmp q k)) keys

  -- Ok with the place of the key that is equal to k; Err with the number of smaller keys
  abbrev pub key_place : Q → List K → Result ℕ ℕ
  key_place k keys = if has_key k keys then Ok (count_below k keys) else Err (count_below k keys)

  -- the first n keys are below k
  pub record AllBelow (k : Q) (n : ℕ) (keys : List K) : Type 0 where
    pub below : (i : ℕ) (q : K) → i < n → slice_get keys i ≡ Some q → cmp q k ≡ Less

  -- the key at i, if there is one, is not below k
  pub record IsNotBelowAt (k : Q) (i : ℕ) (keys : List K) : Type 0 where
    pub stops : (q : K) → slice_get keys i ≡ Some q → is_lt (cmp q k) ≡ false

  -- the keys before i are below k, and the one at i is not
  pub record IsFirstNotBelow (k : Q) (i : ℕ) (keys : List K) : Type 0 where
    pub within : i ≤ length keys
    pub before : AllBelow k i keys
    pub here : IsNotBelowAt k i keys

module _ {K : Type 0} (cmp : K → K → Ordering) where
  -- the keys from n on are above k
  pub record AllAbove (k : K) (n : ℕ) (keys : List K) : Type 0 where
    pub above : (i : ℕ) (q : K) → n ≤ i → slice_get keys i ≡ Some q → cmp k q ≡ Less

  -- the key just before n, if there is one, is at most k
  pub record IsAtMostBefore (k : K) (n : ℕ) (keys : List K) : Type 0 where
    pub at_most : (i : ℕ) (q : K) → suc i ≡ n → slice_get keys i ≡ Some q → is_le (cmp q k) ≡ true

  -- the key at i is at most k, and all later ones are above k
  pub record IsLastAtMost (k : K) (i : ℕ) (keys : List K) : Type 0 where
    pub within : i < length keys
    pub here : (q : K) → slice_get keys i ≡ Some q → is_le (cmp q k) ≡ true
    pub after : AllAbove k (suc i) keys
