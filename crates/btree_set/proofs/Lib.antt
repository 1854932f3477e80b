-- Sets, as maps without values. A file cites those before it. Main theorems: MergeLaws, a merge of two ascending lists ascends, and has the
-- elements that its name says.
pub mod Common
pub mod KeyLemmas
pub mod SetLaws
pub mod MergeLemmas
pub mod MergedLemmas
pub mod MergeLaws
pub mod PeekLemmas
pub mod TurnLemmas
pub mod HintLemmas
pub mod DrainLemmas
pub mod Crossing
