-- The names that the proofs of this crate cite everywhere, passed on from one place. Declares nothing.
pub use Rattle.std.proofs.Common.{◌≡◌, ◌≢◌, ◌<◌, ◌≤◌, inl, inr, ℕ, zero, suc, ◌+◌, List, [], ◌∷◌, ◌++◌, length, Option, Some, None, refl, sym, ap, subst, ◌∙◌, arith, slice_get, option_map, map, ◌⊎◌, ◌-◌}
pub use Rattle.std.proofs.lemmas.Option.{same_Some}
pub use Rattle.std.specs.List.{AllByRecursion}
pub use Rattle.btree_laws.proofs.Paths.Frames.{one-self}
pub use Rattle.btree_laws.proofs.Trees.Numbers.{zero-or}
pub use Rattle.btree_laws.proofs.Trees.Stores.{writes_node}
pub use Rattle.btree_laws.specs.Focus.Subtree.{Subtree, id_of, items_under, later_items, times_under, view_at}
pub use Rattle.btree_laws.specs.Lists.{one, total}
pub use Rattle.btree_laws.specs.TreeState.{TreeState, node_map, views}
pub use Rattle.btree_node.specs.Node.{view_of}
pub use Rattle.btree_node.specs.declared.node.Node.{Node}
pub use Rattle.btree_owned_walk.specs.Ends.{IsClimbing, ReleasesSpent, StandsAtFront, TakesFirst, StandsAtBack, TakesLast}
pub use Rattle.btree_owned_walk.specs.NodesLeft.{met}
pub use Rattle.btree_owned_walk.specs.Rest.{HasAny, FirstGone, HoldsRest, HoldsDownTo, OnFirst, OnLast, AtFirst, AreApart, IsRest, without_first, AtLast, init_of, tail_of, without_last, LastGone, last_of, first_gone, first_out, DownIn}
pub use Rattle.btree_raw.specs.Raw.{with_node}
pub use Rattle.btree_store.specs.Content.{Content}
pub use Rattle.btree_view.specs.Edits.{HasChildFor, pushed_left}
pub use Rattle.btree_view.specs.View.{View, leaf, internal, NodeMap, children_of, parent_of, size_of}
