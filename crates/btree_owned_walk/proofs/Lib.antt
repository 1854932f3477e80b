-- What is left of a tree while its pairs are taken out. A file cites those before it. Main theorem: `next-leaving` in LeavingLemmas, a step takes
-- the first pair, and leaves the nodes that still hold one.
pub mod Common
pub mod RestLemmas
pub mod FirstLemmas
pub mod ClimbLemmas
pub mod ChainLemmas
pub mod LastLemmas
pub mod CountLemmas
pub mod StartLemmas
pub mod StretchLemmas
pub mod StepLemmas
pub mod BackLemmas
pub mod LeafLemmas
pub mod LeavingLaws
pub mod LeavingLemmas
