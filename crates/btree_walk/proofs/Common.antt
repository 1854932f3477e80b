-- The names that the proofs of this crate cite everywhere, passed on from one place. Declares nothing.
pub use Rattle.std.proofs.Common.{◌≡◌, ℕ, zero, suc, ◌<◌, ◌≤◌, List, [], ◌∷◌, map, Option, Some, refl, ap, arith, ◌+◌, ◌++◌, length, drop, slice_get, None, Result, Ok, Err, IsSome, sym, subst, ◌∙◌, append_assoc, Bool, true, false, take, option_map, append-nil, ◌-◌, not, length-append, rules}
pub use Rattle.std.proofs.lemmas.List.{length-map, take_all, length_push, take_at}
pub use Rattle.std.specs.BTreeMap.Range.{entries_between, range_contains}
pub use Rattle.std.specs.Borrow.{Bor}
pub use Rattle.std.specs.Cmp.{IsTotalOrder}
pub use Rattle.std.specs.List.{AllByRecursion, filter}
pub use Rattle.std.specs.Option.{option_or}
pub use Rattle.std.specs.declared.cmp.Ordering.{Ordering}
pub use Rattle.std.specs.declared.cmp.Ordering.TheVariants.{Equal, Less, Greater}
pub use Rattle.std.specs.declared.ops.Bound.{Bound}
pub use Rattle.std.specs.declared.ops.Bound.TheVariants.{Included, Unbounded}
pub use Rattle.btree_item.specs.KeyLaws.{cuts_of}
pub use Rattle.btree_item.specs.Pairs.{place_of}
pub use Rattle.btree_laws.proofs.LookUp.KeyInList.{AreAbove, AreBelow, Rises, rises-right, searched, side, rises-left, ascends, rises}
pub use Rattle.btree_laws.proofs.LookUp.Walk.{under-internal, under-leaf, Inside, remaining-push}
pub use Rattle.btree_laws.proofs.Paths.Frames.{AllByRecursion-append, AllByRecursion-right}
pub use Rattle.btree_laws.specs.Focus.Search.{levels_below}
pub use Rattle.btree_laws.specs.Remaining.{IsUnder, remaining_in, AreRows, remaining_above}
pub use Rattle.btree_laws.specs.Represents.{represented}
pub use Rattle.btree_laws.specs.TreeState.{TreeState, views, node_map, pairs_of, pairs_under}
pub use Rattle.btree_laws.specs.WellFormed.{IsWellFormed}
pub use Rattle.btree_node.proofs.NodeSizes.{fits-internal, fits-leaf}
pub use Rattle.btree_node.specs.Node.{view_of}
pub use Rattle.btree_node.specs.declared.node.Node.{Node}
pub use Rattle.btree_store.specs.Content.{Content}
pub use Rattle.btree_view.specs.View.{NodeMap, internal, View, items_of, leaf, children_of, size_of, branches_of}
pub use Rattle.btree_walk.specs.Bounds.{bound_key}
pub use Rattle.btree_walk.specs.Near.{IsLast, branch_past, list_under, pair_past, branch_now}
pub use Rattle.btree_walk.specs.Preceding.{preceding_in, with_child_before, preceding_above, row_before, rows_before, AreFetched}
pub use Rattle.btree_walk.specs.Ranges.{IsFirstOf, IsLastOf, from_first, left_until, pair_now, behind_of, ahead_of}
pub use Rattle.btree_walk.specs.Rows.{rows_of, remaining_in_leaf}
pub use Rattle.btree_walk.specs.declared.ancestors.Ancestor.{Ancestor}
