pub mod BetweenLemmas
pub mod ChangedLemmas
