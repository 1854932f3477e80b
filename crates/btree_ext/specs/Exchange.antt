-- Replacing the item at an address.
-- Read `KeepsAddresses` first: root, length and number of nodes stay, and so does every address, with its place.
-- `IsExchanged` adds the new list, with another item at the place of the address. `IsValueExchanged`, where the key
-- stays, is what `exchange` ensures; `insert` cites it for a key that is there, by `ExchangesValueAt` (`Insert.antt`).
-- `IsKeyExchanged` is the same where the value stays.
use Rattle.std.specs.Prelude.{◌≡◌, ◌≢◌, ℕ, Some, set, slice_get}
use Rattle.std.specs.FinMap as map
use Rattle.std.specs.declared.cmp.Ordering.{Ordering}
use Rattle.btree_item.specs.Address.{Address}
use Rattle.btree_laws.specs.TreeState.{TreeState, IsBTree, IsPlaceIn, IsValidIn, item_of, pairs_of}
use Rattle.btree_find.specs.Navigation.{IsItemAddress}

module _ {K V : Type 0} (old new : TreeState K V) (a : Address) where
  -- every address stays valid, at the same place, and with the same item, or still without one; only address `a`
  -- may have another item
  pub record KeepsAddresses : Type 0 where
    pub root : new.root ≡ old.root
    pub len : new.len ≡ old.len
    pub nodes : map.len new.nodes ≡ map.len old.nodes
    pub valid : (b : Address) → IsValidIn old b → IsValidIn new b
    pub places : (b : Address) (place : ℕ) → IsPlaceIn old b place → IsPlaceIn new b place
    pub others : (b : Address) → b ≢ a → item_of new b ≡ item_of old b

  -- the item at address `a` was replaced by x, also in the list, at the place of the address, which had the item that
  -- was there (`here`); every address stays
  pub record IsExchanged (cmp : K → K → Ordering) (x : K × V) : Type 0 where
    pub tree : IsBTree cmp new
    pub place : ℕ
    pub here : IsItemAddress old place a
    pub pairs : pairs_of new ≡ set (pairs_of old) place x
    pub item : item_of new a ≡ Some x
    pub keeps : KeepsAddresses
    pub uncounted : new.kept ≡ old.kept

  -- the same, where the key stays and only the value is replaced: `was` by `is`
  pub record IsValueExchanged (cmp : K → K → Ordering) (was is : V) : Type 0 where
    pub key : K
    pub had : item_of old a ≡ Some (key, was)
    pub exchanged : IsExchanged cmp (key, is)
    pub listed : slice_get (pairs_of old) exchanged.place ≡ Some (key, was)

  -- the same, where the value stays and only the key is replaced: `was` by `is`
  pub record IsKeyExchanged (cmp : K → K → Ordering) (was is : K) : Type 0 where
    pub value : V
    pub had : item_of old a ≡ Some (was, value)
    pub exchanged : IsExchanged cmp (is, value)
    pub listed : slice_get (pairs_of old) exchanged.place ≡ Some (was, value)
