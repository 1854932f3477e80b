pub mod Cuts
pub mod RemovalLemmas
pub mod CheckLemmas
pub mod EndLemmas
