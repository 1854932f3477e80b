pub mod Capacity
pub mod From
