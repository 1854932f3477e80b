-- Stores in a table of places. Main theorem: in TableLemmas, that each call keeps what `IsTable` says of the places.
pub mod CapacityLaws
pub mod SlotLemmas
pub mod TableLemmas
pub mod FillLemmas
pub mod FilledLemmas
pub mod Crossing
