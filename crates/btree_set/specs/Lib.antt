pub mod Elements
pub mod Merges
pub mod Extension
pub mod Splitting
pub mod Drain
