-- Ranges of numbers. A file cites those before it. Main theorems: in RangeLaws, `made-by-calls`, the numbers after any list of calls, and
-- `same-runs`, one list of runs for a set of numbers.
pub mod Common
pub mod LimitLemmas
pub mod ListLemmas
pub mod RunLemmas
pub mod PlaceLemmas
pub mod StepLemmas
pub mod JoinLemmas
pub mod ClearLemmas
pub mod CutLemmas
pub mod GapLemmas
pub mod MeetLemmas
pub mod CountLemmas
pub mod RangeLaws
pub mod QueryLemmas
pub mod SeriesLemmas
pub mod TwoSetLemmas
pub mod RunLoop
pub mod Crossing
