pub mod Internal
pub mod InternalLends
pub mod Insertion
pub mod Children
pub mod ChildrenLeft
