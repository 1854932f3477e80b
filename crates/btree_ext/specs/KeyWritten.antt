-- A tree with another value at a key.
use Rattle.std.specs.Prelude.{◌≡◌, slice_get, unwrap_or}
use Rattle.std.specs.declared.cmp.Ordering.{Ordering}
use Rattle.btree_item.specs.Pairs.{before, with_value}
use Rattle.btree_item.specs.Address.{Address}
use Rattle.btree_laws.specs.Focus.Positions.{address_at}
use Rattle.btree_laws.specs.Place.{NOWHERE}
use Rattle.btree_laws.specs.TreeAddresses.{item_addresses_of}
use Rattle.btree_laws.specs.TreeState.{TreeState, pairs_of}
use Rattle.btree_find.specs.Answers.{IsFoundBy}
use Rattle.btree_ext.specs.Exchange.{IsValueExchanged}
use Rattle.btree_ext.specs.Insert.{ExchangesValueAt}
use Rattle.btree_ext.specs.ValueWritten.{value_written}

-- `cmp x k` says on which side of k the key x is
module _ {K Q V : Type 0} (cmp : K → Q → Ordering) (k : Q) where
  -- the address of the item with the key, if the key is there
  abbrev pub address_at_key : TreeState K V → Address
  address_at_key s = unwrap_or (slice_get (item_addresses_of s) (before cmp k (pairs_of s))) (address_at NOWHERE 0)

  -- the tree with w as the value at the key, if the key is there
  abbrev pub key_written : TreeState K V → V → TreeState K V
  key_written s w = value_written s (address_at_key s) w

module _ {K V : Type 0} (cmp : K → K → Ordering) where
  -- the value at the key that a query is equal to was replaced: `was` by `is`
  pub record ExchangesValueBy {Q : Type 0} (compare : K → Q → Ordering) (query : Q) (old new : TreeState K V) (was is : V) : Type 0 where
    pub at : Address
    pub found_by : IsFoundBy compare query old at
    pub exchanged : IsValueExchanged old new at cmp was is
    pub pairs : pairs_of new ≡ with_value compare query is (pairs_of old)

module _ {K V : Type 0} (cmp : K → K → Ordering) (k : K) where
  -- the value at the key, which is there, was replaced: `was` by `is`
  pub record ExchangesValue (old new : TreeState K V) (was is : V) : Type 0 where
    pub pairs : pairs_of new ≡ with_value cmp k is (pairs_of old)
    pub exchanges : ExchangesValueAt cmp k old new was is
