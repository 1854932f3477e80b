-- The names that the proofs of this crate cite everywhere, passed on from one place. Declares nothing.
pub use Rattle.std.proofs.Common.{◌≡◌, ◌≤◌, ◌<◌, ◌∙◌, ℕ, suc, Bool, true, false, cond, List, length, set, slice_get, Option, Some, None, refl, sym, ap, arith, ◌⊎◌, inl, inr, zero, subst, max, min, [], ◌∷◌}
pub use Rattle.std.proofs.lemmas.Bool.{cases_Bool, cases_lt, lt-ltb, le-ltb, cases_order}
pub use Rattle.std.proofs.lemmas.List.{length-set}
pub use Rattle.std.proofs.lemmas.List.Edits.{length-remove}
pub use Rattle.std.proofs.lemmas.Option.{same_Some, slice_get_within}
pub use Rattle.std.specs.List.{insert, remove}
pub use Rattle.std.specs.Ordering.{nat_cmp}
pub use Rattle.std.specs.Prelude.{IsSome}
pub use Rattle.btree_ext.specs.CallerLaws.{value-list}
pub use Rattle.btree_ext.specs.Exchange.{IsExchanged, IsValueExchanged}
pub use Rattle.btree_ext.specs.InsertAt.{InsertsAt}
pub use Rattle.btree_find.specs.Fits.{ReplacesAt, FitsAt}
pub use Rattle.btree_find.specs.Navigation.{HasPlace, IsItemAddress, IsItemAt, IsNormalized, IsPrevious}
pub use Rattle.btree_item.specs.Address.{Address}
pub use Rattle.btree_item.specs.Pairs.{KeyFits}
pub use Rattle.btree_item.specs.declared.refused.Cause.{Cause}
pub use Rattle.btree_item.specs.declared.refused.Cause.TheVariants.{Count as NodeCount, Store as NodeStore}
pub use Rattle.btree_laws.specs.TreeState.{TreeState, item_of, pairs_of}
pub use Rattle.btree_range_map.specs.CallerLaws.{between-above, between-below, between-from, between-high, between-low}
pub use Rattle.btree_range_map.specs.Places.{EndsBy, StartsFrom, IsRangeAround, IsApart}
pub use Rattle.btree_range_map.specs.Ranges.{AreRuns, is_between, is_within, value_at, CutsOne, AscendFrom, meets, ranges_meeting, IsAssigned, JoinsNone}
pub use Rattle.btree_range_map.specs.Series.{GoesThrough}
pub use Rattle.btree_range_map.specs.State.{GrowsWithinLimit}
pub use Rattle.btree_range_map.specs.Steps.{Overlaps, Assigns, CanAbsorb, SetsEnd}
pub use Rattle.btree_range_map.specs.declared.refused.RangeCause.{RangeCause}
pub use Rattle.btree_range_map.specs.declared.refused.RangeCause.TheVariants.{Clone, Count, Store}
pub use Rattle.btree_range_map.specs.declared.span.Span.{Span}
