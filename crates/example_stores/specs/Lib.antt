pub mod GrowingSlots
pub mod Lends
pub mod OnePlaceLaws
