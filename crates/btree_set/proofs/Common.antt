-- The names that the proofs of this crate cite everywhere, passed on from one place. Declares nothing.
pub use Rattle.std.proofs.Common.{◌≡◌, ◌∙◌, true, false, List, [], ◌∷◌, Option, None, Some, drop, length, slice_get, refl, sym, ap, subst, arith, Bool, cond, is_some, ◌&&◌, ℕ, ◌+◌, not, option_map, IfSome, ◌≤◌, ◌<◌}
pub use Rattle.std.specs.Cmp.{IsTotalOrder}
pub use Rattle.std.specs.Fn.{CalledAt, TakesAt}
pub use Rattle.std.specs.List.{filter}
unfoldable pub use Rattle.std.specs.List.Sorted.{IsStrictlySortedBy}
pub use Rattle.std.specs.Map.{keys_of}
pub use Rattle.std.specs.Ordering.{is_eq}
pub use Rattle.std.specs.declared.cmp.Ordering.{Ordering}
pub use Rattle.std.specs.declared.cmp.Ordering.TheVariants.{Less, Equal, Greater}
pub use Rattle.btree_laws.specs.TreeState.{pairs_of}
pub use Rattle.btree_map.specs.Ascending.{IsLastPair}
pub use Rattle.btree_set.specs.Drain.{CallableOnEach}
pub use Rattle.btree_set.specs.Elements.{SetState, set_of, stored}
pub use Rattle.btree_set.specs.Extension.{inserted_all}
pub use Rattle.btree_set.specs.Merges.{difference, intersection, symmetric_difference, union, is_in}
