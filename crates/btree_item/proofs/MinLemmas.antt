-- The last key that is at most a given one, in a list of keys that do not descend.
use Rattle.btree_item.proofs.Common.{◌≡◌, ℕ, ◌+◌, ◌<◌, ◌≤◌, true, false, List, Some, length, suc, refl, sym, ◌∙◌, ap, arith, Ordering, Less, Equal, Greater, slice_get, is_lt, IsTotalOrder, slice_get_within}
use Rattle.std.specs.Ordering.{is_le, ordering_reverse}
use Rattle.std.specs.List.Sorted.{IsSorted}
use Rattle.std.proofs.lemmas.List.Sorted.{ranks_by, sorted_far}
use Rattle.std.proofs.lemmas.Option.{get_or_from_slice_get}
use Rattle.btree_item.specs.Keys.{AllAbove, IsAtMostBefore, IsLastAtMost}

is_le-from_not_below : (c d : Ordering) → is_lt c ≡ false → d ≡ ordering_reverse c → is_le d ≡ true
is_le-from_not_below Less d not_below is = absurd (cc)
is_le-from_not_below Equal d not_below is = ap is_le is
is_le-from_not_below Greater d not_below is = ap is_le is

module _ {K : Type 0} {cmp : K → K → Ordering} where
  pub IsAtMostBefore-none : (k : K) (keys : List K) → IsAtMostBefore cmp k 0 keys
  IsAtMostBefore-none k keys = record { at_most = λ i q e at. absurd (omega arith) }

  pub AllAbove-end : (k : K) (n : ℕ) (keys : List K) → length keys ≤ n → AllAbove cmp k n keys
  AllAbove-end k n keys past = record { above = λ i q from at. absurd (omega (arith, slice_get_within keys i q at)) }

  module _ (o : IsTotalOrder cmp) where
    still_above : (c : Ordering) (k x y : K) → cmp k y ≡ c → cmp k x ≡ Less → is_lt (cmp y x) ≡ false → cmp k y ≡ Less
    still_above Less k x y is less ordered = is
    still_above Equal k x y is less ordered =
        let below : cmp y x ≡ Less = sym (o.congr k y x is) ∙ less in
        let no = ap is_lt below in
        absurd (cc)
    still_above Greater k x y is less ordered =
        let flip : cmp y k ≡ Less = o.antisymm y k ∙ ap ordering_reverse is in
        let no = ap is_lt (o.trans y k x flip less) in
        absurd (cc)

    -- the keys from one that is above k on are above k
    pub AllAbove-from_key : (k x : K) (m : ℕ) (keys : List K) → IsSorted cmp keys → slice_get keys m ≡ Some x → cmp k x ≡ Less → AllAbove cmp k m keys
    AllAbove-from_key k x m keys up at less = record {
      above = λ i q from here.
          let low = get_or_from_slice_get keys m x x at in
          let high = get_or_from_slice_get keys i q x here in
          let within = slice_get_within keys i q here in
          let ordered : is_lt (cmp q x) ≡ false = rw (low, high) at (sorted_far (λ a b. is_lt (cmp a b)) (ranks_by o (λ a. a)) keys up m i x from within) in
          still_above (cmp k q) k x q refl less ordered;
    }

    pub IsAtMostBefore-from_key : (k x : K) (m : ℕ) (keys : List K) → slice_get keys m ≡ Some x → is_lt (cmp k x) ≡ false → IsAtMostBefore cmp k (m + 1) keys
    IsAtMostBefore-from_key k x m keys at not_above = record {
      at_most = λ i q next here.
          let same : i ≡ m = omega arith in
          let there : slice_get keys m ≡ Some q = ap (slice_get keys) (sym same) ∙ here in
          let equal : x ≡ q = cc in
          rw (← equal) (is_le-from_not_below (cmp k x) (cmp x k) not_above (o.antisymm x k));
    }

  pub IsLastAtMost-at : (k : K) (n i : ℕ) (keys : List K) → i < length keys → n ≡ suc i → IsAtMostBefore cmp k n keys → AllAbove cmp k n keys → IsLastAtMost cmp k i keys
  IsLastAtMost-at k n i keys within next at_most above = record {
    within = within;
    here = λ q at. at_most.at_most i q (sym next) at;
    after = record { above = λ j q from at. above.above j q (omega arith) at };
  }

pub ruleset min_steps = (IsAtMostBefore-none, AllAbove-end, IsAtMostBefore-from_key, IsLastAtMost-at)
