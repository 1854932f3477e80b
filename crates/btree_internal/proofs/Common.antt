-- The names that the proofs of this crate cite everywhere, passed on from one place. Declares nothing.
pub use Rattle.std.proofs.Common.{◌≡◌, ℕ, ◌-◌, List, [], ◌∷◌, ◌++◌, Option, Some, None, map, ◌∙◌, ap, length, ◌+◌, ◌<◌, Ok, Ordering, zero, suc, refl, sym, arith, drop, inl, rules}
pub use Rattle.std.proofs.lemmas.Grind.{common_steps}
pub use Rattle.std.proofs.lemmas.List.{length-map, map-append}
pub use Rattle.std.specs.Option.{option_map}
pub use Rattle.std.specs.Prelude.{slice_get, ◌==◌}
pub use Rattle.btree_internal.specs.Internal.{branch_pair, Internal, internal_view}
unfoldable pub use Rattle.btree_internal.specs.InternalLends.{internal_with_value_at}
pub use Rattle.btree_internal.specs.declared.internal.Branch.{Branch}
pub use Rattle.btree_item.specs.Pairs.{place_of}
pub use Rattle.btree_view.specs.View.{internal, items_of, children_of}
