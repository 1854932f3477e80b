-- Iterators over a tree. A file cites those before it. Main theorems: in BoundLemmas, that the pairs between two bounds are one part of the
-- list; in RangeLemmas, the steps of a range from both ends.
pub mod Common
mod RowLemmas
mod WayLemmas
mod AtKeyLemmas
mod AroundLemmas
mod BackLemmas
pub mod BoundLemmas
mod BetweenLemmas
mod EndLemmas
mod WalkLemmas
mod FetchedLemmas
mod FromLemmas
mod IterLemmas
mod LevelLemmas
mod NearLemmas
mod NearRowLemmas
mod RangeLemmas
mod UpToLemmas
