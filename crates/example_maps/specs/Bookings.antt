-- Bookings by the time at which they begin, each with the time at which it ends.
use Rattle.std.specs.Prelude.{◌≡◌, ◌<◌, ◌≤◌, ℕ, Bool, ◌&&◌, nat_lt, List, [], ◌∷◌, take, Option}
use Rattle.std.specs.List.{AllByRecursion, count_by}
use Rattle.btree_slab.specs.Address.{Address}
use Rattle.btree_slab.specs.TreeState.{TreeState, pairs_of}
use Rattle.btree_slab.specs.Navigation.{IsItemAt}

-- a booking overlaps the time from start to end
abbrev pub overlaps : (start end : ℕ) → ℕ × ℕ → Bool
overlaps start end booking = nat_lt booking.0 end && nat_lt start booking.1

-- each booking begins before it ends, and ends before the later ones begin
abbrev pub AreApart : List (ℕ × ℕ) → Type 0
AreApart [] = Unit {0}
AreApart (x ∷ xs) = (x.0 < x.1) × AllByRecursion (λ y. x.1 ≤ y.0) xs × AreApart xs

-- the bookings before this one do not overlap any time from start on
pub record IsFirstCandidate (s : TreeState ℕ ℕ) (start : ℕ) (found : Option Address) : Type 0 where
  pub place : ℕ
  pub item : IsItemAt s place found
  pub none_before : (end : ℕ) → count_by (overlaps start end) (take place (pairs_of s)) ≡ 0
