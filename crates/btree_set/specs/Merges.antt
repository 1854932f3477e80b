-- The merges of two sets, by their lists of elements. Of two equal elements the union has the second list's, and the
-- intersection the first list's.
-- That each merge of two ascending lists ascends, and has the elements that its name says, is proved in
-- `proofs/MergeLaws.antt`: `union-ascends`, `union-members`, and the same of the others.
use Rattle.std.specs.Prelude.{Bool, true, false, not, ℕ, ◌+◌, ◌-◌, ◌^◌, nat_lt, max, min, List, Option, Some, None, is_some, if◌then◌else◌}
use Rattle.std.specs.Iterator.{Count, item_count}
use Rattle.std.specs.List.{filter}
use Rattle.std.specs.Set.{sorted_merge}
use Rattle.std.specs.declared.cmp.Ordering.{Ordering}
use Rattle.btree_set.specs.Elements.{stored}

module _ {T : Type 0} (cmp : T → T → Ordering) where
  -- whether an element of the list is equal to x
  abbrev pub is_in : List T → T → Bool
  is_in xs x = is_some (stored cmp x xs)

  -- the elements of both lists in order
  abbrev pub union : (first second : List T) → List T
  union first second = sorted_merge cmp true second first

  -- the elements of the first list that the second one has
  abbrev pub intersection : (first second : List T) → List T
  intersection first second = filter (is_in second) first

  -- the elements of the first list that the second one does not have
  abbrev pub difference : (first second : List T) → List T
  difference first second = filter (λ x. not (is_in second x)) first

  -- the elements that exactly one of the lists has, in order
  abbrev pub symmetric_difference : (first second : List T) → List T
  symmetric_difference first second = sorted_merge cmp false second first

-- how many elements a merge has still to yield, for what is left of its two lists
abbrev pub count_of : {T : Type 0} → (List T → List T → List T) → (left : List T × List T) → Count
count_of merge left = item_count (λ lists. merge lists.0 lists.1) left

-- the two bounds of the number of elements that a merge of n and m elements yields
abbrev pub checked_sum : (n m : ℕ) → Option ℕ
checked_sum n m = if nat_lt (n + m) (2 ^ 64) then Some (n + m) else None

-- how many elements each merge of n and m elements yields, at least and at most; for a union, at most n + m if that is a `usize`
abbrev pub union_hint : (n m : ℕ) → ℕ × Option ℕ
union_hint n m = (max n m, checked_sum n m)

-- at most as many as the shorter list has
abbrev pub intersection_hint : (n m : ℕ) → ℕ × Option ℕ
intersection_hint n m = (0, Some (min n m))

-- at least what is left if all m are taken away
abbrev pub difference_hint : (n m : ℕ) → ℕ × Option ℕ
difference_hint n m = (n - m, Some n)

-- none, if the lists are the same
abbrev pub symmetric_difference_hint : (n m : ℕ) → ℕ × Option ℕ
symmetric_difference_hint n m = (0, checked_sum n m)
