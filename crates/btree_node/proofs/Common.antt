-- The names that the proofs of this crate cite everywhere, passed on from one place. Declares nothing.
pub use Rattle.std.proofs.Common.{◌≡◌, ℕ, Option, Some, None, refl, ap, sym, ◌∙◌, ◌<◌, arith, subst, Ok, Err, rules}
pub use Rattle.std.proofs.lemmas.Grind.{common_steps}
pub use Rattle.std.proofs.lemmas.List.{length-map}
pub use Rattle.std.specs.Prelude.{slice_get}
pub use Rattle.btree_internal.specs.Internal.{internal_view}
pub use Rattle.btree_leaf.specs.Leaf.{leaf_view}
pub use Rattle.btree_node.specs.Node.{view_of}
pub use Rattle.btree_node.specs.declared.node.Node.{Node}
pub use Rattle.btree_view.specs.View.{View, items_of, children_of, size_of}
pub use denote.Param.{param}
