-- A node of either kind. The files stand alone. Main theorem: in LookUpLemmas, that a look-up names the item, or the child that may hold the
-- key.
pub mod Common
pub mod LookUpLemmas
pub mod NodeLemmas
pub mod SplitSizes
pub mod NodeSizes
pub mod RoomLemmas
pub mod Crossing
