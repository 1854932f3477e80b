-- Laws of the lists of addresses of a tree.
-- There are as many occupied addresses as items, so an index below the number of items is the place of exactly one of
-- them (`one-occupied` in `proofs/AddressLists/ItemAddresses.antt`). There is one more back address in leaves than
-- items, so a place has exactly one back address in a leaf (`one-leaf-back` in `proofs/AddressLists/LeafBacks.antt`).
use Rattle.std.specs.Prelude.{◌≡◌, ℕ, suc, ◌+◌, ◌<◌, ◌≤◌, List, [], length, slice_get, Option, Some, None}
use Rattle.btree_item.specs.Address.{Address}
use Rattle.btree_view.specs.View.{NodeMap, View, size_of}
use Rattle.btree_laws.specs.Place.{IsWithin, IsValid, IsOccupied, IsBack, IsLeafAddress, IsPlace, item_at}
use Rattle.btree_laws.specs.Represents.{numbers_under}
use Rattle.btree_laws.specs.WellFormed.{IsRooted, times_used}
use Rattle.btree_laws.specs.Lists.{times_listed}

module _ {A : Type 0} (node_at : NodeMap A) where
  -- the nodes are one tree of at most `levels` levels, whatever their numbers of items, and each of its addresses has
  -- one place
  pub record IsPlaced (levels root : ℕ) (xs : List A) : Type 0 where
    pub rooted : IsRooted (λ id node. Unit {0}) node_at root xs
    pub low : rooted.height < levels
    pub one : (id : ℕ) (offset : Option ℕ) (p q : ℕ) → IsPlace node_at (Some root) xs id offset p
        → IsPlace node_at (Some root) xs id offset q → p ≡ q

  -- the same, or there are no nodes
  abbrev pub IsPlacedUnder : (levels : ℕ) → Option ℕ → List A → Type 0
  IsPlacedUnder levels None xs = ((n : ℕ) → node_at n ≡ None) × (xs ≡ [])
  IsPlacedUnder levels (Some root) xs = IsPlaced levels root xs

  -- the numbers of the nodes, each once
  abbrev pub numbers_of : (levels : ℕ) (root : Option ℕ) (xs : List A) → IsPlacedUnder levels root xs → List ℕ
  numbers_of levels None xs p = []
  numbers_of levels (Some root) xs p = numbers_under node_at p.rooted.height root

  -- the offset is below the number of items, -1 included
  abbrev pub IsFront : Option (View A) → Option ℕ → Type 0
  IsFront None offset = ⊥
  IsFront (Some node) None = Unit {0}
  IsFront (Some node) (Some offset) = offset < size_of node

  module _ (root : Option ℕ) (xs : List A) (list : List Address) where
    -- the list has the occupied addresses, each at the index that is its place
    pub record ListsItems : Type 0 where
      pub counted : length list ≡ length xs
      pub right : (place : ℕ) (a : Address) → slice_get list place ≡ Some a
          → IsOccupied node_at a.id a.offset × IsPlace node_at root xs a.id a.offset place × (item_at node_at a ≡ slice_get xs place)
      pub each : (place : ℕ) (a : Address) → IsOccupied node_at a.id a.offset → IsPlace node_at root xs a.id a.offset place
          → slice_get list place ≡ Some a

    -- the list has the back addresses in leaves, each at the index that is its place; in an empty tree the address
    -- nowhere
    pub record ListsLeafBacks : Type 0 where
      pub counted : length list ≡ suc (length xs)
      pub right : (place : ℕ) (a : Address) → slice_get list place ≡ Some a
          → IsValid node_at root a.id a.offset × IsLeafAddress node_at root a.id a.offset × IsBack node_at a.offset
          × IsPlace node_at root xs a.id a.offset place
      pub each : (place : ℕ) (a : Address) → IsValid node_at root a.id a.offset → IsLeafAddress node_at root a.id a.offset
          → IsBack node_at a.offset → IsPlace node_at root xs a.id a.offset place → slice_get list place ≡ Some a

    -- no address occurs twice in the list, and the places of its addresses never decrease
    pub record IsInOrder : Type 0 where
      pub once : (i j : ℕ) (a : Address) → slice_get list i ≡ Some a → slice_get list j ≡ Some a → i ≡ j
      pub rising : (i j : ℕ) (a b : Address) (p q : ℕ) → i ≤ j → slice_get list i ≡ Some a → slice_get list j ≡ Some b
          → IsPlace node_at root xs a.id a.offset p → IsPlace node_at root xs b.id b.offset q → p ≤ q
      pub placed : (i : ℕ) (a : Address) → slice_get list i ≡ Some a
          → (place : ℕ) × IsPlace node_at root xs a.id a.offset place

    -- the list has the back addresses in nodes, in order; `numbers` has the numbers of the nodes, each once, and there
    -- are as many addresses as items and nodes together
    pub record ListsBacks (numbers : List ℕ) : Type 0 where
      pub used : (n : ℕ) → times_listed n numbers ≡ times_used (node_at n)
      pub counted : length list ≡ length xs + length numbers
      pub right : (i : ℕ) (a : Address) → slice_get list i ≡ Some a → IsWithin node_at (node_at a.id) a.offset × IsBack node_at a.offset
      pub each : (a : Address) → IsWithin node_at (node_at a.id) a.offset → IsBack node_at a.offset
          → (i : ℕ) × (slice_get list i ≡ Some a)
      pub order : IsInOrder

    -- the list has the front addresses, in order; there are as many as items and nodes together
    pub record ListsFronts (numbers : List ℕ) : Type 0 where
      pub used : (n : ℕ) → times_listed n numbers ≡ times_used (node_at n)
      pub counted : length list ≡ length xs + length numbers
      pub right : (i : ℕ) (a : Address) → slice_get list i ≡ Some a → IsFront (node_at a.id) a.offset
      pub each : (a : Address) → IsFront (node_at a.id) a.offset → (i : ℕ) × (slice_get list i ≡ Some a)
      pub order : IsInOrder
