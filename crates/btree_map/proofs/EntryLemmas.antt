-- What a search by key returned, as an entry keeps it.
use Rattle.btree_map.proofs.Common.{◌≡◌, ◌∙◌, ℕ, Option, Some, None, IsSome, refl, sym, ap, inl, IsTotalOrder, Ordering, inserted, Address, TreeState, IsValidIn, item_of, node_map, pairs_of, item-occupied, occupied-item}
use Rattle.btree_laws.specs.Place.{IsOccupied, IsWithin}
use Rattle.btree_laws.proofs.Places.Words.{item-within}
use Rattle.btree_laws.proofs.Options.{some-none}
use Rattle.btree_find.specs.Answers.{IsFoundAt}
use Rattle.btree_map.specs.Written.{list_written, with_value_of}
use Rattle.btree_map.proofs.ListLemmas.{inserted-present}

-- an address at which an item is, is valid
pub item-valid : {K V : Type 0} (s : TreeState K V) (a : Address) → IsSome (item_of s a) → IsValidIn s a
item-valid {K} {V} s a some = inl (by a.offset (item-occupied s a some))
  where
    by : (o : Option ℕ) → IsOccupied (node_map s) a.id o → IsWithin (node_map s) (node_map s a.id) o
    by None is = absurd is
    by (Some n) is = item-within (node_map s) n is.0 (node_map s a.id) is.1

module _ {K V : Type 0} (cmp : K → K → Ordering) (laws : IsTotalOrder cmp) (s : TreeState K V) (k : K) (a : Address) where
  module _ (f : IsFoundAt cmp k s a) where
    pub found-occupied : IsSome (item_of s a)
    found-occupied = occupied-item s a f.here.occupied

    pub found-writes : (w : V) → list_written cmp s a w ≡ inserted cmp k w (pairs_of s)
    found-writes w = by (item_of s a) refl
      where
        by : (o : Option (K × V)) → item_of s a ≡ o → list_written cmp s a w ≡ inserted cmp k w (pairs_of s)
        by None is = absurd (some-none (item_of s a) found-occupied is)
        by (Some x) is = ap (λ o. with_value_of cmp o w (pairs_of s)) is ∙ inserted-present cmp laws k w (pairs_of s) x (sym f.item ∙ is)
