-- Short words for what a step finds in a map's list, and beside an address.
use Rattle.std.specs.Prelude.{◌≡◌, ◌+◌, ◌-◌, ℕ, List, Option, Some, drop, length, slice_get}
use Rattle.std.specs.Borrow.{Bor, MutBor}
use Rattle.std.specs.Iterator.{Count, at_most}
use Rattle.btree_item.specs.Address.{Address}
use Rattle.btree_laws.specs.TreeAddresses.{item_addresses_of}
use Rattle.btree_laws.specs.TreeState.{TreeState, pairs_of}
use Rattle.btree_laws.specs.Visits.{prior}

-- the last element, if there is one
abbrev pub last_of : {A : Type 0} → List A → Option A
last_of xs = slice_get xs (length xs - 1)

-- at most as many items as are behind the first ones
abbrev pub at_most_behind : {A : Type 0} → (front : ℕ) → List A → Count
at_most_behind front xs = at_most (length (drop front xs))

-- the pair that two references lead to
abbrev pub read_pair : {K V : Type 0} → Bor K × Bor V → K × V
read_pair pair = (pair.0.now, pair.1.now)

module _ {K V : Type 0} (s : TreeState K V) where
  -- the place of the last pair
  abbrev pub last_place : ℕ
  last_place = length (pairs_of s) - 1

  -- the pair at a place, with its value for writing
  abbrev pub LendsPairAt : (place : ℕ) → Bor K × MutBor V → Type 0
  LendsPairAt place lent = slice_get (pairs_of s) place ≡ Some (lent.0.now, lent.1.now)

  -- the address of the item after that at an address, or before it
  abbrev pub IsAddressAfter : Address → Option Address → Type 0
  IsAddressAfter addr next = (place : ℕ) → slice_get (item_addresses_of s) place ≡ Some addr → next ≡ slice_get (item_addresses_of s) (place + 1)

  abbrev pub IsAddressBefore : Address → Option Address → Type 0
  IsAddressBefore addr previous = (place : ℕ) → slice_get (item_addresses_of s) place ≡ Some addr → previous ≡ prior (item_addresses_of s) place
