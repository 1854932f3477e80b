-- How many elements the merges yield, at least and at most.
use Rattle.btree_set.proofs.Common.{◌+◌, ◌<◌, ◌≤◌, ℕ, true, false, List, Option, None, Some, IfSome, length, arith, IsTotalOrder, IsStrictlySortedBy, Ordering, difference, intersection, is_in, symmetric_difference, union}
use Rattle.std.proofs.Common.{◌^◌}
use Rattle.std.specs.Iterator.{UpTo, at_most}
use Rattle.std.specs.Option.{SomeIff}
use Rattle.btree_set.proofs.MergeLemmas.{filter-both, intersection-few, merged-few, union-many}

pub up-to-sum : (o : Option ℕ) (n m k : ℕ) → SomeIff o (n + m < 2 ^ 64) (n + m) → k ≤ n + m → IfSome o (UpTo (at_most k))
up-to-sum None n m k is few = tt
up-to-sum (Some s) n m k is few = (tt, let e = is.1 in omega arith)

module _ {T : Type 0} (cmp : T → T → Ordering) (first second : List T) where
  pub union-least : (length first ≤ length (union cmp first second)) × (length second ≤ length (union cmp first second))
  union-least = let n = union-many cmp second first in (n.1, n.0)

  pub union-most : length (union cmp first second) ≤ length first + length second
  union-most = let n = merged-few cmp true second first in omega arith

  pub apart-most : length (symmetric_difference cmp first second) ≤ length first + length second
  apart-most = let n = merged-few cmp false second first in omega arith

  pub lacking-most : length (difference cmp first second) ≤ length first
  lacking-most = let n = filter-both (is_in cmp second) first in omega arith

  pub shared-most-first : length (intersection cmp first second) ≤ length first
  shared-most-first = let n = filter-both (is_in cmp second) first in omega arith

  module _ (laws : IsTotalOrder cmp) (up : IsStrictlySortedBy cmp first) (rise : IsStrictlySortedBy cmp second) where
    pub shared-most-second : length (intersection cmp first second) ≤ length second
    shared-most-second = intersection-few laws first second up rise

    pub lacking-least : length first ≤ length (difference cmp first second) + length second
    lacking-least = let n = filter-both (is_in cmp second) first in let m = shared-most-second in omega arith
