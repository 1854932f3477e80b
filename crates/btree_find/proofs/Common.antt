-- The names that the proofs of this crate cite everywhere, passed on from one place. Declares nothing.
pub use Rattle.std.proofs.Common.{◌≡◌, ◌<◌, ◌≤◌, ◌+◌, ℕ, inl, inr, Option, Some, None, IsSome, refl, sym, ap, subst, arith, option_map, ◌∙◌, List, length, zero, suc, slice_get, ◌^◌, ◌-◌, ◌++◌, length-append, Ok, Err, [], ◌∷◌, ◌==◌}
pub use Rattle.std.proofs.lemmas.Option.{slice_get_past}
pub use Rattle.std.specs.Cmp.{IsTotalOrder}
pub use Rattle.std.specs.List.{position}
pub use Rattle.std.specs.Prelude.{IfSome}
pub use Rattle.std.specs.declared.cmp.Ordering.{Ordering}
pub use Rattle.std.specs.declared.cmp.Ordering.TheVariants.{Less}
pub use Rattle.btree_find.specs.Fits.{pairs_below}
pub use Rattle.btree_find.specs.Levels.{levels_from}
pub use Rattle.btree_find.specs.Navigation.{IsNext, LeadsToItem, HasPlace, IsItemAt, IsNormalized, BeginsInLeaf, IsItemBefore, IsPrevious}
pub use Rattle.btree_item.proofs.PairLemmas.{before-from_Err, found-from_Err}
pub use Rattle.btree_item.specs.Address.{Address}
pub use Rattle.btree_item.specs.Pairs.{Ascends, place_of}
pub use Rattle.btree_item.specs.declared.address.Address.TheView.{view}
pub use Rattle.btree_laws.proofs.AddressLists.Whole.{addresses-tree}
pub use Rattle.btree_laws.proofs.LookUp.KeyInList.{rises, searched}
pub use Rattle.btree_laws.proofs.Places.ChildPlaces.{child-places}
pub use Rattle.btree_laws.proofs.Trees.Numbers.{used-one}
pub use Rattle.btree_laws.proofs.Trees.Stores.{used-view}
pub use Rattle.btree_laws.proofs.Trees.ValidPlaces.{place-valid}
pub use Rattle.btree_laws.specs.Focus.Positions.{address_at, address_before}
pub use Rattle.btree_laws.specs.Focus.Search.{levels_below}
pub use Rattle.btree_laws.specs.Need.{levels_above}
pub use Rattle.btree_laws.specs.Place.{IsOccupied, IsWithin, IsPlace, IsEnd, IsSubtreeAt}
pub use Rattle.btree_laws.specs.TreeAddresses.{HasAddresses}
pub use Rattle.btree_laws.specs.TreeState.{TreeState, IsBTree, IsOccupiedIn, IsValidIn, node_map, IsPlaceIn, IsUsed, pairs_of, IsLeafAddressIn, item_of}
pub use Rattle.btree_laws.specs.WellFormed.{IsWellFormed}
pub use Rattle.btree_node.specs.Node.{view_of}
pub use Rattle.btree_node.specs.declared.node.Node.{Node}
pub use Rattle.btree_raw.proofs.PlacedLemmas.{leaf-without}
pub use Rattle.btree_raw.specs.LastItem.{EndsInLeaf}
pub use Rattle.btree_view.specs.View.{NodeMap, item_in, size_of, View, children_in, children_of, leaf, parent_of, internal, items_of}
