-- The part of a list between two places, and how it is found.
-- A cursor over a range keeps the address of the first item that is left, and that of the last one. Their indices among
-- the addresses of the items are the places between which the range is: `index_of` the first one up to `index_after` the
-- last one. `from_place` and `to_place` say the same by the bounds of the range.
use Rattle.std.specs.Prelude.{◌≡◌, ℕ, suc, Bool, not, ◌&&◌, List, length, Option, Some, None, nat_eq, slice_get}
use Rattle.std.specs.BTreeMap.Range.{is_from_start, is_past_end}
use Rattle.std.specs.List.{count_by, filter, position_or_len}
use Rattle.std.specs.Option.{option_eq}
use Rattle.std.specs.declared.cmp.Ordering.{Ordering}
use Rattle.std.specs.declared.ops.Bound.{Bound}
use Rattle.btree_item.specs.Address.{Address}
use Rattle.btree_laws.specs.TreeAddresses.{item_addresses_of}
use Rattle.btree_laws.specs.TreeState.{TreeState, pairs_of}
use Rattle.btree_laws.specs.Visits.{prior}

-- whether two addresses are equal
abbrev pub is_same : Address → Address → Bool
is_same a b = nat_eq a.id b.id && option_eq nat_eq a.offset b.offset

-- the index of an address in a list, or the length of the list without one
abbrev pub index_of : List Address → Option Address → ℕ
index_of list None = length list
index_of list (Some a) = position_or_len (is_same a) list

-- the index after that of an address in a list, or 0 without one
abbrev pub index_after : List Address → Option Address → ℕ
index_after list None = 0
index_after list (Some a) = suc (position_or_len (is_same a) list)

module _ {K V : Type 0} (cmp : K → K → Ordering) where
  -- how many pairs are before a start bound
  abbrev pub from_place : Bound K → List (K × V) → ℕ
  from_place lo xs = count_by (λ x. not (is_from_start cmp lo x.0)) xs

  -- how many pairs are not past an end bound
  abbrev pub to_place : Bound K → List (K × V) → ℕ
  to_place hi xs = count_by (λ x. not (is_past_end cmp hi x.0)) xs

  -- the pairs of a tree before a start bound
  abbrev pub pairs_before : Bound K → TreeState K V → List (K × V)
  pairs_before lo s = filter (λ x. not (is_from_start cmp lo x.0)) (pairs_of s)

  -- the address of the first pair of a tree that is not before a start bound, and of the last one that is not past an
  -- end bound
  abbrev pub first_address : Bound K → TreeState K V → Option Address
  first_address start s = slice_get (item_addresses_of s) (from_place start (pairs_of s))

  abbrev pub last_address : Bound K → TreeState K V → Option Address
  last_address end s = prior (item_addresses_of s) (to_place end (pairs_of s))

module _ {K V : Type 0} (s : TreeState K V) where
  -- the index of an address among those of a tree's items, and the index after it
  abbrev pub item_index : Option Address → ℕ
  item_index a = index_of (item_addresses_of s) a

  abbrev pub next_index : Option Address → ℕ
  next_index a = index_after (item_addresses_of s) a

  -- the item that an address is said to be at is there
  abbrev pub IsFirstListed : Option Address → Type 0
  IsFirstListed first = first ≡ slice_get (item_addresses_of s) (item_index first)

  abbrev pub IsLastListed : Option Address → Type 0
  IsLastListed last = last ≡ prior (item_addresses_of s) (next_index last)
