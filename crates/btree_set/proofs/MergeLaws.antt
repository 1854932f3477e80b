-- The merges of two lists that ascend strictly under a lawful comparison: each merge ascends strictly, and has the
-- elements that its name says. An element is in a list if an `Equal` one is.
use Rattle.btree_set.proofs.Common.{◌≡◌, ◌∙◌, true, false, not, List, ◌&&◌, ap, IsTotalOrder, IsStrictlySortedBy, Ordering, difference, intersection, is_in, symmetric_difference, union}
use Rattle.std.proofs.Common.{◌||◌}
use Rattle.std.proofs.Math.Bool.{xor}
use Rattle.std.proofs.lemmas.List.Kept.{IsStrictlySortedBy-filter}
use Rattle.btree_set.proofs.MergedLemmas.{in-alike, in-apart, in-filter, in-union, merge-ascends, or-turned, xor-turned}

module _ {T : Type 0} {cmp : T → T → Ordering} (laws : IsTotalOrder cmp) (first second : List T) (up : IsStrictlySortedBy cmp first) (rise : IsStrictlySortedBy cmp second) where
  pub union-ascends : IsStrictlySortedBy cmp (union cmp first second)
  union-ascends = merge-ascends laws true second first rise up

  pub intersection-ascends : IsStrictlySortedBy cmp (intersection cmp first second)
  intersection-ascends = IsStrictlySortedBy-filter cmp (is_in cmp second) first up

  pub difference-ascends : IsStrictlySortedBy cmp (difference cmp first second)
  difference-ascends = IsStrictlySortedBy-filter cmp (λ x. not (is_in cmp second x)) first up

  pub symmetric_difference-ascends : IsStrictlySortedBy cmp (symmetric_difference cmp first second)
  symmetric_difference-ascends = merge-ascends laws false second first rise up

  module _ (x : T) where
    pub union-members : is_in cmp (union cmp first second) x ≡ (is_in cmp first x || is_in cmp second x)
    union-members = in-union laws x second first ∙ or-turned (is_in cmp second x) (is_in cmp first x)

    pub intersection-members : is_in cmp (intersection cmp first second) x ≡ (is_in cmp first x && is_in cmp second x)
    intersection-members = in-filter laws (is_in cmp second) x (λ y same. in-alike laws y x second same) first

    pub difference-members : is_in cmp (difference cmp first second) x ≡ (is_in cmp first x && not (is_in cmp second x))
    difference-members = in-filter laws (λ y. not (is_in cmp second y)) x (λ y same. ap not (in-alike laws y x second same)) first

    pub symmetric_difference-members : is_in cmp (symmetric_difference cmp first second) x ≡ xor (is_in cmp first x) (is_in cmp second x)
    symmetric_difference-members = in-apart laws x second first rise up ∙ xor-turned (is_in cmp second x) (is_in cmp first x)
