-- The names that the proofs of this crate cite everywhere, passed on from one place. Declares nothing.
pub use Rattle.std.proofs.Common.{◌≡◌, ℕ, Option, ◌∙◌, suc, ◌+◌, Bool, true, false, not, ◌&&◌, List, [], ◌∷◌, ◌++◌, length, length-append, arith, slice_get, Some, None, IfSome, refl, sym, ap, subst, append_assoc, zero, ◌-◌, ◌<◌, cond, take, drop, nat_lt, inl, inr, ◌≤◌, set, IsSome, length-drop, option_map, rules}
pub use Rattle.std.proofs.lemmas.Bool.{cases_Bool, ltb-false, ltb-true}
pub use Rattle.std.proofs.lemmas.List.{length-take}
pub use Rattle.std.proofs.lemmas.Option.{same_Some, slice_get_within}
pub use Rattle.std.specs.BTreeMap.Range.{entries_between, is_from_start, is_past_end, range_contains}
pub use Rattle.std.specs.Borrow.{MutBor}
pub use Rattle.std.specs.Cmp.{IsTotalOrder, tied_itself}
pub use Rattle.std.specs.List.{AllByRecursion, filter, insert, remove}
pub use Rattle.std.specs.Ordering.{is_le, is_lt, is_gt}
pub use Rattle.std.specs.declared.cmp.Ordering.{Ordering}
pub use Rattle.std.specs.declared.cmp.Ordering.TheVariants.{Less, Equal, Greater}
pub use Rattle.std.specs.declared.ops.Bound.{Bound}
pub use Rattle.std.specs.declared.ops.Bound.TheVariants.{Unbounded, Included, Excluded}
pub use Rattle.btree_ext.specs.ValueWritten.{value_written}
pub use Rattle.btree_find.proofs.FitsLemmas.{occupied-item, item-occupied}
pub use Rattle.btree_find.specs.Navigation.{IsNext}
pub use Rattle.btree_item.specs.Address.{Address}
pub use Rattle.btree_item.specs.Pairs.{before, found, inserted, KeyFits, Ascends}
pub use Rattle.btree_laws.proofs.AddressLists.Whole.{addresses-tree}
pub use Rattle.btree_laws.proofs.LookUp.KeyInList.{Rises, rises}
pub use Rattle.btree_laws.specs.TreeAddresses.{item_addresses_of}
pub use Rattle.btree_laws.specs.TreeState.{TreeState, IsBTree, IsValidIn, item_of, pairs_of, node_map}
pub use Rattle.btree_laws.specs.Visits.{prior}
pub use Rattle.btree_map.specs.Ascending.{IsLastPair}
pub use Rattle.btree_map.specs.Cursor.{WritesPlace, or_nowhere}
pub use Rattle.btree_map.specs.Drain.{Ends}
pub use Rattle.btree_map.specs.Editing.{entry_front, left_of, passed_of}
pub use Rattle.btree_map.specs.Extension.{inserted_all}
pub use Rattle.btree_map.specs.RangeCursor.{range_back, range_front}
pub use Rattle.btree_map.specs.Removal.{AddsNoNode}
pub use Rattle.btree_map.specs.SpanLaws.{index-within}
pub use Rattle.btree_map.specs.Spans.{item_index, from_place, to_place, index_after, index_of}
pub use Rattle.btree_map.specs.WrittenAddresses.{written-addresses}
pub use Rattle.btree_map.specs.declared.cursor.editing.EntriesMut.{EntriesMut}
pub use Rattle.btree_walk.proofs.BoundLemmas.{all-so, filter-earlier}
pub use Rattle.btree_walk.specs.Bounds.{bound_key}
