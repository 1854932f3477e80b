-- The names that the proofs of this crate cite everywhere, passed on from one place. Declares nothing.
pub use Rattle.std.proofs.Common.{◌≡◌, ℕ, ◌+◌, ◌<◌, ◌≤◌, List, [], ◌∷◌, ◌++◌, Option, Some, map, length, take, drop, set, get_or, zero, suc, refl, sym, ◌∙◌, ap, arith, Bool, true, false, cond, Ok, Err, subst, Ordering, None, rules, ◌-◌}
pub use Rattle.std.proofs.lemmas.Grind.{common_steps}
pub use Rattle.std.proofs.lemmas.List.{length-map}
pub use Rattle.std.proofs.lemmas.Map.Keys.{sorted_tail}
pub use Rattle.std.proofs.lemmas.Option.{slice_get_within}
pub use Rattle.std.specs.Cmp.{IsTotalOrder}
pub use Rattle.std.specs.List.{insert, remove, refill}
pub use Rattle.std.specs.Ordering.{is_eq, is_lt, is_some_and}
pub use Rattle.std.specs.Prelude.{slice_get, IsSome}
pub use Rattle.std.specs.declared.cmp.Ordering.TheVariants.{Less, Equal, Greater}
pub use Rattle.btree_item.specs.Keys.{count_below, has_key, AllBelow}
pub use Rattle.btree_item.specs.Somes.{somes}
