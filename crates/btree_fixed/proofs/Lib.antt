-- When a fixed table refuses. A file cites those before it. Main theorem: in CapacityLaws, an insertion is refused exactly where the nodes that
-- it would leave are more than the table holds.
pub mod CapacityLaws
pub mod SetLaws
pub mod EntryLaws
pub mod CursorLaws
pub mod CursorLemmas
