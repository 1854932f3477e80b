-- What navigation by address returns: addresses of items, by place.
-- `IsItemAt` names the one occupied address of a place, so the address that is returned is determined by the place of
-- the given one.
use Rattle.std.specs.Prelude.{◌≡◌, ◌≢◌, ◌+◌, ℕ, zero, suc, ◌≤◌, length, slice_get, Option, Some, None, IfSome, IsSome, ◌↔◌}
use Rattle.std.specs.FinMap as map
use Rattle.btree_item.specs.Address.{Address}
use Rattle.btree_view.specs.View.{children_in}
use Rattle.btree_laws.specs.Addresses.{first_leaf}
use Rattle.btree_laws.specs.Focus.Positions.{address_at, address_before}
use Rattle.btree_laws.specs.Place.{IsLeaf}
use Rattle.btree_laws.specs.TreeAddresses.{item_addresses_of}
use Rattle.btree_laws.specs.TreeState.{TreeState, IsLeafAddressIn, IsOccupiedIn, IsPlaceIn, IsValidIn, item_of, node_map, pairs_of}

module _ {K V : Type 0} (s : TreeState K V) where
  -- the address has this place, and no other
  pub record HasPlace (a : Address) (place : ℕ) : Type 0 where
    pub at : IsPlaceIn s a place
    pub only : (other : ℕ) → IsPlaceIn s a other → other ≡ place

  -- the address is that of the item at this place
  pub record IsItemAddress (place : ℕ) (a : Address) : Type 0 where
    pub valid : IsValidIn s a
    pub occupied : IsOccupiedIn s a
    pub has : HasPlace a place
    pub item : item_of s a ≡ slice_get (pairs_of s) place

  -- the address of the item at a place, or none from the end of the list on
  pub record IsItemAt (place : ℕ) (a : Option Address) : Type 0 where
    pub listed : a ≡ slice_get (item_addresses_of s) place
    pub here : IfSome a (IsItemAddress place)
    pub past : a ≡ None → length (pairs_of s) ≤ place

  -- the address of the item before a place, or none at the first place
  abbrev pub IsItemBefore : (place : ℕ) → Option Address → Type 0
  IsItemBefore zero a = a ≡ None
  IsItemBefore (suc place) a = IsItemAt place a

  -- the address itself if an item is at it, else that of the item at its place
  pub record IsNormalized (a : Address) (found : Option Address) : Type 0 where
    pub place : ℕ
    pub has : HasPlace a place
    pub item : IsItemAt place found
    pub same : IsOccupiedIn s a → found ≡ Some a

  -- the item before the place of the address
  pub record IsPrevious (a : Address) (found : Option Address) : Type 0 where
    pub place : ℕ
    pub has : HasPlace a place
    pub item : IsItemBefore place found

  -- the item after the one at the address, which is the item before it; without one, the one at its place
  pub record IsNext (a : Address) (found : Option Address) : Type 0 where
    pub place : ℕ
    pub has : HasPlace a place
    pub after : IsOccupiedIn s a → IsItemAt (suc place) found
    pub back : IsOccupiedIn s a → IfSome found (λ b. IsPrevious b (Some a))
    pub here : (IsOccupiedIn s a → ⊥) → IsItemAt place found

  -- the next item where there is one; else the offset after the address if an item is at it, and the address itself
  -- if there is none; none in an empty tree
  pub record IsNextOrBack (a : Address) (found : Option Address) : Type 0 where
    pub next : Option Address
    pub is_next : IsNext a next
    pub item : IfSome next (λ b. found ≡ Some b)
    pub after : (n : ℕ) → a.offset ≡ Some n → next ≡ None → IsOccupiedIn s a → found ≡ Some (address_at a.id (n + 1))
    pub stays : next ≡ None → (IsOccupiedIn s a → ⊥) → s.root ≢ None → found ≡ Some a
    pub empty : s.root ≡ None → found ≡ None
    pub valid : IfSome found (IsValidIn s)
    pub back : IfSome found (λ b. IsSome b.offset)

  -- an address in a leaf, or nowhere, at the same place, which is at -1 exactly if the address is; the address itself if
  -- it is one
  pub record IsLeafAddressFor (a found : Address) : Type 0 where
    pub valid : IsValidIn s found
    pub in_leaf : IsLeafAddressIn s found
    pub place : ℕ
    pub has : HasPlace a place
    pub there : HasPlace found place
    pub back : IsSome a.offset ↔ IsSome found.offset
    pub same : IsLeafAddressIn s a → found ≡ a

  -- from an address: the item at its place, and the item before it
  abbrev pub LeadsToItem : Address → Option Address → Type 0
  LeadsToItem a found = (place : ℕ) → IsPlaceIn s a place → IsItemAt place found

  abbrev pub LeadsBefore : Address → Option Address → Type 0
  LeadsBefore a found = (place : ℕ) → IsPlaceIn s a place → IsItemBefore place found

  -- from an address: the item after the one at it, else the one at its place
  abbrev pub LeadsToNext : Address → Option Address → Type 0
  LeadsToNext a found = (place : ℕ) → IsPlaceIn s a place
      → (IsOccupiedIn s a → IsItemAt (suc place) found) × ((IsOccupiedIn s a → ⊥) → IsItemAt place found)

  -- the first leaf under a node begins where the node does
  pub record BeginsInLeaf (id leaf : ℕ) : Type 0 where
    pub first : leaf ≡ first_leaf (node_map s) (map.len s.nodes) id
    pub is_leaf : IsLeaf (node_map s) (node_map s leaf)
    pub begins : (place : ℕ) → IsPlaceIn s (address_before id) place → IsPlaceIn s (address_before leaf) place
    pub same : IsLeaf (node_map s) (node_map s id) → leaf ≡ id

  -- two children of one node, the second right after the first
  pub record AreBeside (left right : ℕ) : Type 0 where
    pub parent : ℕ
    pub index : ℕ
    pub first : slice_get (children_in (node_map s parent)) index ≡ Some left
    pub second : slice_get (children_in (node_map s parent)) (suc index) ≡ Some right
