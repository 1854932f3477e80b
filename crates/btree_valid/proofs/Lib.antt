-- The validator. A file cites those before it. Main theorems: `all-found` in TreeLemmas, no fault means a well formed tree; `off-found` in
-- OffByOneLemmas, or one that is off by one at the node that is exempt; NameLemmas, the fault that is answered is the first one; `readable` in
-- ReadLaws, what a reader may rest on where no check fails.
pub mod Common
pub mod ListedLaws
pub mod ChildLemmas
pub mod VerdictLemmas
pub mod SuitsLemmas
pub mod FaultLemmas
pub mod BlameLemmas
pub mod WholeLemmas
pub mod FoundLemmas
pub mod NodeLemmas
pub mod ExactLemmas
pub mod OnceLemmas
pub mod TreeLemmas
pub mod OffByOneLemmas
pub mod PartNames
pub mod NameLemmas
pub mod EndLemmas
mod ReadLemmas
mod WayLemmas
pub mod ReadLaws
