-- What a change by another set leaves. A call that is refused goes through the other set in ascending order, so that below a
-- number it is done, and from there on the old set stands.
use Rattle.std.specs.Prelude.{◌≡◌, ℕ, not, ◌&&◌, ◌||◌, nat_le, nat_lt, List}
use Rattle.btree_range_set.specs.Ranges.{has_number}

-- the new set is the union of the old one with another
abbrev pub IsUnionWith : (old other new : List (ℕ × ℕ)) → Type 0
IsUnionWith old other new = (n : ℕ) → has_number new n ≡ (has_number old n || has_number other n)

-- the new set is the old one without the numbers of another
abbrev pub IsDifferenceWith : (old other new : List (ℕ × ℕ)) → Type 0
IsDifferenceWith old other new = (n : ℕ) → has_number new n ≡ (has_number old n && not (has_number other n))

-- the new set is the intersection of the old one with another
abbrev pub IsIntersectionWith : (old other new : List (ℕ × ℕ)) → Type 0
IsIntersectionWith old other new = (n : ℕ) → has_number new n ≡ (has_number old n && has_number other n)

module _ (end : ℕ) (old other new : List (ℕ × ℕ)) where
  -- the same below a number; from there on the new set is the old one
  abbrev pub IsUnionBelow : Type 0
  IsUnionBelow = (n : ℕ) → has_number new n ≡ (has_number old n || (nat_lt n end && has_number other n))

  -- below `end` the numbers of the other set are taken away; from there on nothing has changed
  abbrev pub IsDifferenceBelow : Type 0
  IsDifferenceBelow = (n : ℕ) → has_number new n ≡ (has_number old n && not (nat_lt n end && has_number other n))

  -- below `end` only the numbers of the other set are left; from there on nothing has changed
  abbrev pub IsIntersectionBelow : Type 0
  IsIntersectionBelow = (n : ℕ) → has_number new n ≡ (has_number old n && (nat_le end n || has_number other n))
