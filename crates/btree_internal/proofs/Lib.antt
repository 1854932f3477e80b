-- An internal node as branches of an item and a child. A file cites those before it. Main theorem: in InternalSplit, that the parts of a
-- split have the node's items and children in their order.
pub mod Common
pub mod BranchLemmas
pub mod LookUpLemmas
pub mod InternalSplit
pub mod SeparatorLemmas
pub mod InsertionLemmas
pub mod ChangeLemmas
pub mod InternalSizes
pub mod Crossing
