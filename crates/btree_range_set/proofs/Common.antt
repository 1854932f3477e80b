-- The names that the proofs of this crate cite everywhere, passed on from one place. Declares nothing.
pub use Rattle.std.proofs.Common.{◌≡◌, ◌≤◌, ◌<◌, ◌∙◌, ℕ, suc, max, Bool, true, false, not, ◌&&◌, ◌||◌, List, length, set, slice_get, Some, refl, sym, ap, arith, ◌⊎◌, inl, inr, zero, Option, None, subst, [], ◌∷◌}
pub use Rattle.std.proofs.lemmas.Bool.{cases_Bool, cases_lt, lt-ltb, le-ltb}
pub use Rattle.std.proofs.lemmas.List.{length-set}
pub use Rattle.std.proofs.lemmas.List.Edits.{length-remove}
pub use Rattle.std.proofs.lemmas.Option.{same_Some, slice_get_within}
pub use Rattle.std.proofs.lemmas.Result.{IfErr-weaker, on_ok_weaker}
pub use Rattle.std.specs.List.{insert, remove}
pub use Rattle.std.specs.Ordering.{nat_cmp}
pub use Rattle.btree_ext.specs.InsertAt.{InsertsAt}
pub use Rattle.btree_find.specs.Answers.{IsFoundAt}
pub use Rattle.btree_find.specs.Navigation.{HasPlace, IsNormalized, IsPrevious}
pub use Rattle.btree_item.specs.Address.{Address}
pub use Rattle.btree_item.specs.Pairs.{KeyFits}
pub use Rattle.btree_laws.specs.TreeState.{TreeState, item_of, pairs_of}
pub use Rattle.btree_range_set.specs.CallerLaws.{none-below, runs-weaken, within-above, within-below, within-from, within-high, within-low}
pub use Rattle.btree_range_set.specs.Places.{EndsBefore, StartsAfter, IsRangeAround}
pub use Rattle.btree_range_set.specs.Ranges.{AreRuns, has_number, is_within, AreRunsFrom, ranges_meeting, IsMaximalRun}
pub use Rattle.btree_range_set.specs.Series.{GoesThrough}
pub use Rattle.btree_range_set.specs.State.{GrowsWithinLimit}
pub use Rattle.btree_range_set.specs.TwoSets.{IsDifferenceWith, IsUnionWith}
