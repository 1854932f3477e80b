-- An item removed from a well formed tree. Main theorem: `take-off` in FromTree, without an item of a leaf the tree is
-- off by one there; `inner-removed` in FromInternal, the same for an item of an internal node, which is replaced by the
-- item before it, from a leaf. Removals cite these two and FromTree, exchanges OtherItemInState.
-- Order: an item out of a leaf, in a focus and in a tree (FromLeaf, FromTree); an item replaced by another, in a node,
-- in a tree and in a state (OtherItem, OtherItemInTree, OtherItemInState); and the two together (FromInternal).
pub mod FromLeaf
pub mod FromTree
pub mod OtherItem
pub mod OtherItemInTree
pub mod OtherItemInState
pub mod FromInternal
