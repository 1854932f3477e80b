-- What a tree is once a value was written by way of an entry, or its pair was removed.
-- In `IsInsertedWith` the key was absent, and in `WritesValueAt` it was there, at the address.
use Rattle.std.specs.Prelude.{◌≡◌, List, Option, Some, None}
use Rattle.std.specs.List.{insert}
use Rattle.std.specs.declared.cmp.Ordering.{Ordering}
use Rattle.btree_item.specs.Pairs.{before, with_value}
use Rattle.btree_item.specs.Address.{Address}
use Rattle.btree_laws.specs.TreeState.{TreeState, item_of, pairs_of}
use Rattle.btree_ext.specs.Exchange.{IsValueExchanged}
use Rattle.btree_ext.specs.InsertAbsent.{InsertsAbsent}
use Rattle.btree_ext.specs.Remove.{IsRemoved}
use Rattle.btree_ext.specs.ValueWritten.{value_written}

module _ {K V : Type 0} (cmp : K → K → Ordering) where
  -- the list with w as the value at the key of this pair; the list itself without a pair
  abbrev pub with_value_of : Option (K × V) → V → List (K × V) → List (K × V)
  with_value_of None w xs = xs
  with_value_of (Some x) w xs = with_value cmp x.0 w xs

  -- the tree's list with w as the value of the item at an address
  abbrev pub list_written : TreeState K V → Address → V → List (K × V)
  list_written s a w = with_value_of (item_of s a) w (pairs_of s)

  module _ (old new : TreeState K V) where
    -- the value at an address was replaced, also in the list: `was` by `is`
    pub record WritesValueAt (a : Address) (was is : V) : Type 0 where
      pub exchanged : IsValueExchanged old new a cmp was is
      pub pairs : pairs_of new ≡ list_written old a is

    -- the pair at an address was removed
    abbrev pub RemovesAt : Address → K × V → Type 0
    RemovesAt a x = (after : Address) × IsRemoved old new cmp a x after

    -- the pair at an address, which has this value, was removed
    abbrev pub RemovesValueAt : Address → V → Type 0
    RemovesValueAt a value = (key : K) × RemovesAt a (key, value)

  -- whatever is written at an address replaces the value that was lent
  abbrev pub WritesLentAt : TreeState K V → Address → (lent : V) → Type 0
  WritesLentAt s a lent = (w : V) → WritesValueAt s (value_written s a w) a lent w

  -- the key was inserted with a value, and w was written in its place then
  pub record IsInsertedWith (k : K) (old new : TreeState K V) (value w : V) : Type 0 where
    pub mid : TreeState K V
    pub at : Address
    pub inserted : InsertsAbsent cmp k old mid value at
    pub written : new ≡ value_written mid at w
    pub pairs : pairs_of new ≡ insert (pairs_of old) (before cmp k (pairs_of old)) (k, w)
