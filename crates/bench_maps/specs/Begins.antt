-- A map whose first item is at a known address.
use Rattle.std.specs.Prelude.{◌≡◌, ℕ, Some, IsSome, slice_get}
use Rattle.btree_item.specs.Address.{Address}
use Rattle.btree_laws.specs.TreeState.{TreeState, IsValidIn, pairs_of}
use Rattle.btree_find.specs.Navigation.{HasPlace}

-- the first item is at this address, and this is its key
pub record BeginsAt (s : TreeState ℕ ℕ) (a : Address) (key : ℕ) : Type 0 where
  pub valid : IsValidIn s a
  pub back : IsSome a.offset
  pub has : HasPlace s a 0
  pub value : ℕ
  pub first : slice_get (pairs_of s) 0 ≡ Some (key, value)
