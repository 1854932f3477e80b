pub mod Leaf
pub mod LeafLends
