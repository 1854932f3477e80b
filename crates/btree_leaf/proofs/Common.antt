-- The names that the proofs of this crate cite everywhere, passed on from one place. Declares nothing.
pub use Rattle.std.proofs.Common.{◌≡◌, ◌++◌, length, sym, ◌∙◌, ap, Some, arith, rules}
pub use Rattle.std.proofs.lemmas.Grind.{common_steps}
pub use Rattle.btree_leaf.specs.Leaf.{Leaf, leaf_view}
pub use Rattle.btree_view.specs.Kept.{node_of}
pub use Rattle.btree_view.specs.View.{leaf}
