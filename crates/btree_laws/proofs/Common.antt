-- The names that the proofs of this crate cite everywhere, passed on from one place. Declares nothing.
pub use Rattle.std.proofs.Common.{◌≡◌, Option, Some, None, refl, IsSome, if◌then◌else◌, ◌≢◌, ◌≤◌, ◌∷◌, [], ◌∙◌, ◌+◌, ◌-◌, ◌==◌, ℕ, zero, suc, List, length, map, sym, ap, subst, arith, ◌<◌, ◌++◌, inl, inr, length-append, option_and_then, ◌⊎◌, ◌*◌, false, append_assoc, append-nil, take, true, Bool, set, Err}
pub use Rattle.std.proofs.lemmas.Bool.{cases_eq}
pub use Rattle.std.proofs.lemmas.Bool.Decides.{nat_tests}
pub use Rattle.std.proofs.lemmas.Grind.{flat_map-append}
pub use Rattle.std.proofs.lemmas.List.{length-map, map-append}
pub use Rattle.std.proofs.lemmas.Option.{same_Some, slice_get_within, slice_get_cases}
pub use Rattle.std.specs.Cmp.{IsTotalOrder}
pub use Rattle.std.specs.FinMap.{len}
pub use Rattle.std.specs.List.{AllByRecursion, flat_map, insert, remove}
unfoldable pub use Rattle.std.specs.List.Sorted.{IsStrictlySortedBy}
pub use Rattle.std.specs.Ordering.{nat_cmp}
pub use Rattle.std.specs.Prelude.{is_some, option_map, slice_get, IsTrue, nat_lt}
pub use Rattle.std.specs.declared.cmp.Ordering.{Ordering}
pub use Rattle.std.specs.declared.cmp.Ordering.TheVariants.{Less, Equal, Greater}
pub use Rattle.btree_item.specs.Address.{Address}
pub use Rattle.btree_item.specs.Keys.{Cuts}
pub use Rattle.btree_item.specs.Pairs.{Ascends, place_of}
pub use Rattle.btree_laws.specs.AddressLaws.{IsPlaced, IsPlacedUnder, numbers_of, IsFront}
pub use Rattle.btree_laws.specs.Addresses.{backs_under, fronts_under, last_item, slot_before, first_leaf}
pub use Rattle.btree_laws.specs.Focus.Focus.{IsUnsizedFocus, IsFocus, HasFocus}
pub use Rattle.btree_laws.specs.Focus.Need.{path_need, path_need_from}
pub use Rattle.btree_laws.specs.Focus.Node.{IsNode, IsExemptNode}
pub use Rattle.btree_laws.specs.Focus.Overflow.{MayOverflowAt, IsRepaired}
pub use Rattle.btree_laws.specs.Focus.Pair.{Rotates, first_of}
pub use Rattle.btree_laws.specs.Focus.Path.{Path, fill, top, under, Frame, fill_two, frame_count, at_branch, at_first, AreFilled, HoldsAbove, SiblingsFilled, SiblingsHold, frame_id, frame_view, least_at, parent_above, root_above, times_above, times_in_siblings, items_after, items_before, frame_index, depth, after_in, before_in, times_in}
pub use Rattle.btree_laws.specs.Focus.Positions.{IsAt, all_positions, Position, address_before, mark, passed, positions_from, positions_to, path_after, path_before, address_at, KeepsPositions, branch_key, branch_positions, over, positions, IsExpected, positions_after, positions_before}
pub use Rattle.btree_laws.specs.Focus.Search.{levels_below}
pub use Rattle.btree_laws.specs.Focus.Strain.{strain, strain_of, surplus, own_strain, strain_below}
pub use Rattle.btree_laws.specs.Focus.Subtree.{Holds, Subtree, count_at, id_of, times_under, view_at, most_at, items_under, later_items, IsFilled, IsFilledBelow}
pub use Rattle.btree_laws.specs.Focus.TreePositions.{IsAddressed, HasPosition}
pub use Rattle.btree_laws.specs.Focus.Underflow.{debt, MayUnderflowAt}
pub use Rattle.btree_laws.specs.Lists.{one, total, times_listed, as_list}
pub use Rattle.btree_laws.specs.Moved.{moved_by_split, at_separator, moved_by_merge, moved_by_rotate_left, moved_by_rotate_right, moved_by_shrink_root, moved_by_take}
pub use Rattle.btree_laws.specs.Need.{split_need, levels_above}
pub use Rattle.btree_laws.specs.Place.{item_at, IsWithin, IsEnd, IsPlace, IsPlaceOf, IsValid, IsSubtreeAt, IsBack, NOWHERE}
pub use Rattle.btree_laws.specs.Represents.{numbers_under, Represents, represented}
pub use Rattle.btree_laws.specs.SiblingSteps.{ShrinksRoot, IsRemade, Merges, RotatesLeft}
pub use Rattle.btree_laws.specs.Step.{WritesNode, Claims, RemovesNode, HasItems}
pub use Rattle.btree_laws.specs.Strain.{strain_under, debt_of}
pub use Rattle.btree_laws.specs.Visits.{back_after, front_before}
pub use Rattle.btree_laws.specs.WellFormed.{IsRooted, IsSized, times_used, IsFormed, IsOffByOne, IsWellFormed, least_of, IsNearlySized}
pub use Rattle.btree_store.specs.Content.{Content}
pub use Rattle.btree_view.specs.Edits.{is_internal, with_item, with_parent}
pub use Rattle.btree_view.specs.View.{NodeMap, View, children_in, leaf, size_of, internal, items_of, item_in, most_of, parent_of, children_of}
