-- What an insertion of an absent key at its gap leaves of a tree.
-- `IsGapOf` is an equation, so that a struct can keep it as a fact about the address that it holds.
use Rattle.std.specs.Prelude.{◌≡◌, Some, slice_get}
use Rattle.std.specs.List.{insert}
use Rattle.std.specs.declared.cmp.Ordering.{Ordering}
use Rattle.btree_item.specs.Pairs.{before}
use Rattle.btree_item.specs.Address.{Address}
use Rattle.btree_laws.specs.TreeAddresses.{leaf_backs_of}
use Rattle.btree_laws.specs.TreeState.{TreeState, IsBTree, IsOccupiedIn, item_of, pairs_of}
use Rattle.btree_find.specs.Navigation.{HasPlace}
use Rattle.btree_ext.specs.Insert.{InsertsByKey}

module _ {K V : Type 0} (cmp : K → K → Ordering) (k : K) where
  -- the address is that of the key's gap: the back address in a leaf with as many pairs before it as have a smaller key
  abbrev pub IsGapOf : TreeState K V → Address → Type 0
  IsGapOf s a = slice_get (leaf_backs_of s) (before cmp k (pairs_of s)) ≡ Some a

  -- the pair was inserted at its place, and is at address b
  pub record InsertsAbsent (old new : TreeState K V) (value : V) (b : Address) : Type 0 where
    pub tree : IsBTree cmp new
    pub pairs : pairs_of new ≡ insert (pairs_of old) (before cmp k (pairs_of old)) (k, value)
    pub there : HasPlace new b (before cmp k (pairs_of old))
    pub occupied : IsOccupiedIn new b
    pub item : item_of new b ≡ Some (k, value)
    pub by_key : InsertsByKey cmp k old new value
    pub uncounted : new.kept ≡ old.kept
