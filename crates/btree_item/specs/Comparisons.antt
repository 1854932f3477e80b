-- How many keys a search in slots compares.
use Rattle.std.specs.Prelude.{◌≡◌, ℕ, ◌+◌, ◌-◌, List, length, map, nat_le, nat_lt, if◌then◌else◌}
use Rattle.std.specs.declared.cmp.Ordering.{Ordering}
use Rattle.btree_steps.specs.declared.Steps.{Steps}
use Rattle.btree_item.specs.Keys.{count_below}
use Rattle.btree_item.specs.declared.searches.TheConstants.{MIDDLE}

-- To find the number of smaller keys, it compares all keys if there are few, and else the one in the middle and those on
-- the side of it where the place is.
abbrev pub comparisons_for_place : (len smaller : ℕ) → ℕ
comparisons_for_place len smaller = if nat_le len MIDDLE then len else (if nat_le smaller MIDDLE then MIDDLE + 1 else len - MIDDLE)

-- It compares the key at that place once more, for equality, unless all keys are smaller.
abbrev pub comparisons : (len smaller : ℕ) → ℕ
comparisons len smaller = comparisons_for_place len smaller + (if nat_lt smaller len then 1 else 0)

-- A search for a key compares so many in slots of which each has the key that `key_of` says.
abbrev pub comparisons_in_slots : {T K Q : Type 0} → (K → Q → Ordering) → (key_of : T → K) → (key : Q) → (slots : List T) → ℕ
comparisons_in_slots cmp key_of key slots = comparisons (length slots) (count_below cmp key (map key_of slots))

-- The counter was raised by this number.
abbrev pub TicksBy : (old new : Steps) → (count : ℕ) → Type 0
TicksBy old new count = new.count ≡ old.count + count
