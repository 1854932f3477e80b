-- What a search returns: the occupied address of an item whose key is equal, else the gap where it would be.
-- `address_by` cites `IsAddressBy`, for a key or for a query of another type. `address_of` cites `IsAddressOf`, for a key,
-- which may replace the equal one or be inserted at the gap; insertion cites its two cases, `IsFoundAt` and `IsGapAt`.
-- `IsAddressUnder` and `IsAddressIn` (cited by `address_in`) are the same for the pairs under a node: places in the whole
-- list, counted from that of offset -1 of the node.
use Rattle.std.specs.Prelude.{◌≡◌, ◌+◌, ℕ, slice_get, IfSome, IsSome, Some, None, Result, Ok, Err}
use Rattle.std.specs.declared.cmp.Ordering.TheVariants.{Equal}
use Rattle.std.specs.declared.cmp.Ordering.{Ordering}
use Rattle.btree_item.specs.Pairs.{found, place_of}
use Rattle.btree_item.specs.Address.{Address}
use Rattle.btree_laws.specs.Focus.Positions.{address_before}
use Rattle.btree_laws.specs.TreeAddresses.{item_addresses_of, leaf_backs_of}
use Rattle.btree_laws.specs.TreeState.{TreeState, IsLeafAddressIn, IsValidIn, item_of, pairs_of}
use Rattle.btree_find.specs.Ends.{IsLeafBackAt}
use Rattle.btree_find.specs.Fits.{FitsAt, FitsIn, ReplacesAt, pairs_below}
use Rattle.btree_find.specs.Navigation.{HasPlace, IsItemAddress}

-- `compare x k` says on which side of k the key x is.
module _ {K Q V : Type 0} (compare : K → Q → Ordering) (k : Q) (s : TreeState K V) where
  -- the address of the item whose key is equal
  pub record IsFoundBy (a : Address) : Type 0 where
    pub place : ℕ
    pub is : place_of compare k (pairs_of s) ≡ Ok place
    pub here : IsItemAddress s place a
    pub item : item_of s a ≡ found compare k (pairs_of s)
    pub same : IfSome (item_of s a) (λ x. compare x.0 k ≡ Equal)
    pub listed : slice_get (item_addresses_of s) place ≡ Some a

  -- no key is equal: the back address in a leaf whose place is the number of smaller keys
  pub record IsGapBy (a : Address) : Type 0 where
    pub place : ℕ
    pub is : place_of compare k (pairs_of s) ≡ Err place
    pub absent : found compare k (pairs_of s) ≡ None
    pub gap : IsLeafBackAt s place a

  -- the address of the item whose key is equal, or of the gap where it would be
  abbrev pub IsAddressBy : Result Address Address → Type 0
  IsAddressBy (Ok a) = IsFoundBy a
  IsAddressBy (Err a) = IsGapBy a

  -- the key at this index among the pairs under a node is equal: the address of its item
  pub record IsFoundUnder (id : ℕ) (a : Address) : Type 0 where
    pub start : ℕ
    pub begins : HasPlace s (address_before id) start
    pub index : ℕ
    pub is : place_of compare k (pairs_below s id) ≡ Ok index
    pub pair : found compare k (pairs_below s id) ≡ item_of s a
    pub item : IsItemAddress s (start + index) a
    pub whole : IsFoundBy a

  -- no key under a node is equal: the back address in a leaf that has as many smaller keys of the node before it
  pub record IsGapUnder (id : ℕ) (a : Address) : Type 0 where
    pub start : ℕ
    pub begins : HasPlace s (address_before id) start
    pub index : ℕ
    pub is : place_of compare k (pairs_below s id) ≡ Err index
    pub absent : found compare k (pairs_below s id) ≡ None
    pub gap : IsLeafBackAt s (start + index) a

  -- the address of the item under a node whose key is equal, or of the gap where it would be there
  abbrev pub IsAddressUnder : (id : ℕ) → Result Address Address → Type 0
  IsAddressUnder id (Ok a) = IsFoundUnder id a
  IsAddressUnder id (Err a) = IsGapUnder id a

module _ {K V : Type 0} (cmp : K → K → Ordering) (k : K) (s : TreeState K V) where
  -- the address of the item with the key, whose key is equal; the key may replace the stored one there
  pub record IsFoundAt (a : Address) : Type 0 where
    pub replaces : ReplacesAt cmp k s a
    pub is : place_of cmp k (pairs_of s) ≡ Ok replaces.place
    pub here : IsItemAddress s replaces.place a
    pub item : item_of s a ≡ found cmp k (pairs_of s)
    pub same : IfSome (item_of s a) (λ x. cmp x.0 k ≡ Equal)
    pub listed : slice_get (item_addresses_of s) replaces.place ≡ Some a

  -- a back address in a leaf whose place is the number of smaller keys, if no key is equal; so the key fits at this
  -- place, and the record has all that an insertion there requires
  pub record IsGapAt (a : Address) : Type 0 where
    pub valid : IsValidIn s a
    pub fits : FitsAt cmp k s a
    pub is : place_of cmp k (pairs_of s) ≡ Err fits.place
    pub in_leaf : IsLeafAddressIn s a
    pub back : IsSome a.offset
    pub listed : slice_get (leaf_backs_of s) fits.place ≡ Some a

  -- the address of a key that is there, or of the gap in which it would be inserted
  abbrev pub IsAddressOf : Result Address Address → Type 0
  IsAddressOf (Ok a) = IsFoundAt a
  IsAddressOf (Err a) = IsGapAt a

  -- a key at this index among the pairs under a node: the address of its item, which is that of the key in the tree
  pub record IsFoundIn (id : ℕ) (a : Address) : Type 0 where
    pub start : ℕ
    pub begins : HasPlace s (address_before id) start
    pub index : ℕ
    pub is : place_of cmp k (pairs_below s id) ≡ Ok index
    pub pair : found cmp k (pairs_below s id) ≡ item_of s a
    pub item : IsItemAddress s (start + index) a
    pub found : IsFoundAt a

  -- no key under a node is equal: the back address in a leaf that has as many smaller keys of the node before it; if
  -- the key fits under the node, it fits there
  pub record IsGapIn (id : ℕ) (a : Address) : Type 0 where
    pub start : ℕ
    pub begins : HasPlace s (address_before id) start
    pub index : ℕ
    pub is : place_of cmp k (pairs_below s id) ≡ Err index
    pub gap : IsLeafBackAt s (start + index) a
    pub fits : FitsIn cmp k s id → FitsAt cmp k s a

  -- the address of a key that is under a node, or of the gap in which it would be there
  abbrev pub IsAddressIn : (id : ℕ) → Result Address Address → Type 0
  IsAddressIn id (Ok a) = IsFoundIn id a
  IsAddressIn id (Err a) = IsGapIn id a
