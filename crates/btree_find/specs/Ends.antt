-- The ends of a tree: its first and last item, and its first and last back address in a leaf.
use Rattle.std.specs.Prelude.{◌≡◌, ℕ, length, slice_get, unwrap_or, Option, Some, None, IsSome, option_map}
use Rattle.std.specs.FinMap as map
use Rattle.btree_item.specs.Address.{Address}
use Rattle.btree_view.specs.View.{size_of}
use Rattle.btree_laws.specs.Addresses.{last_leaf}
use Rattle.btree_laws.specs.Focus.Positions.{address_at}
use Rattle.btree_laws.specs.Place.{NOWHERE}
use Rattle.btree_laws.specs.TreeAddresses.{HasAddresses, first_back, last_front, leaf_backs_of}
use Rattle.btree_laws.specs.TreeState.{TreeState, IsLeafAddressIn, IsValidIn, node_map, pairs_of}
use Rattle.btree_find.specs.Navigation.{HasPlace, IsItemAt, IsItemBefore}

module _ {K V : Type 0} (s : TreeState K V) where
  -- the one back address in a leaf at a place; in an empty tree the address nowhere
  pub record IsLeafBackAt (place : ℕ) (a : Address) : Type 0 where
    pub listed : slice_get (leaf_backs_of s) place ≡ Some a
    pub valid : IsValidIn s a
    pub in_leaf : IsLeafAddressIn s a
    pub back : IsSome a.offset
    pub has : HasPlace s a place

  -- the address past the last item of a node
  abbrev pub end_of : ℕ → Address
  end_of id = address_at id (unwrap_or (option_map size_of (node_map s id)) 0)

  -- past the end of the rightmost leaf under a root; nowhere without one
  abbrev pub last_end_under : Option ℕ → Address
  last_end_under None = address_at NOWHERE 0
  last_end_under (Some root) = end_of (last_leaf (node_map s) (map.len s.nodes) root)

  -- the address of the first item: offset 0 of the leftmost leaf
  pub record IsFirstItem (found : Option Address) : Type 0 where
    pub item : IsItemAt s 0 found
    pub leftmost : found ≡ first_back s

  -- the address of the last item, in the rightmost leaf; a visit of the front addresses begins there (VisitLaws.antt)
  pub record IsLastItem (found : Option Address) : Type 0 where
    pub addresses : HasAddresses s
    pub item : IsItemBefore s (length (pairs_of s)) found
    pub rightmost : found ≡ last_front s

  -- the back address of place 0 in a leaf: offset 0 of the leftmost leaf, or nowhere; a visit of the back addresses
  -- begins there (VisitLaws.antt)
  pub record IsFirstBack (found : Address) : Type 0 where
    pub addresses : HasAddresses s
    pub at : IsLeafBackAt 0 found
    pub leftmost : found ≡ unwrap_or (first_back s) (address_at NOWHERE 0)

  -- the back address in a leaf at the end of the list: past the end of the rightmost leaf, or nowhere
  pub record IsLastValid (found : Address) : Type 0 where
    pub at : IsLeafBackAt (length (pairs_of s)) found
    pub rightmost : found ≡ last_end_under s.root
