-- The names that the proofs of this crate cite everywhere, passed on from one place. Declares nothing.
pub use Rattle.std.proofs.Common.{◌≡◌, ◌≤◌, ◌∙◌, ℕ, zero, suc, List, length, Option, Some, None, refl, sym, ap, subst, arith, option_map, ◌+◌, ◌<◌, [], ◌∷◌, ◌++◌, take, get_or, append_assoc, ◌^◌, decimal, length-append, ◌-◌, Bool, true, false, drop, vec_len, vec_capacity, append-nil, map, cond, inl, inr, rules}
pub use Rattle.std.proofs.lemmas.Grind.{common_steps}
pub use Rattle.std.proofs.lemmas.List.{take_all}
pub use Rattle.std.specs.Cmp.{nat_cmp_total}
pub use Rattle.std.specs.List.{flat_map}
pub use Rattle.std.specs.Ordering.{nat_cmp}
pub use Rattle.btree_find.proofs.PlaceLemmas.{has-place}
pub use Rattle.btree_find.specs.Navigation.{HasPlace}
pub use Rattle.btree_item.specs.Address.{Address}
pub use Rattle.btree_item.specs.Pairs.{found}
pub use Rattle.btree_item.specs.declared.refused.Cause.{Cause}
pub use Rattle.btree_laws.specs.TreeState.{TreeState, IsBTree, pairs_of, views}
pub use Rattle.btree_node.specs.declared.node.Node.{Node}
pub use Rattle.btree_session.specs.Answer.{shape_under, pair_text}
pub use Rattle.btree_session.specs.Held.{Held, HoldsBack}
pub use Rattle.btree_session.specs.Line.{IsNumber, MeansLine}
pub use Rattle.btree_session.specs.Machine.{IsHeldPlace, IsStep}
pub use Rattle.btree_session.specs.declared.command.Command.{Command}
pub use Rattle.btree_session.specs.declared.command.Reply.{Reply}
pub use Rattle.btree_session.specs.declared.command.Reply.TheVariants.{Nothing, Pair, Refused}
pub use Rattle.btree_store.specs.Content.{Content}
