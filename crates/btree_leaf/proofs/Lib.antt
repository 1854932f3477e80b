-- A leaf as a list of items. Main theorem: in LeafSplit, that the parts of a split have the leaf's items in their order.
pub mod Common
pub mod LeafLemmas
pub mod LeafSplit
pub mod Crossing
