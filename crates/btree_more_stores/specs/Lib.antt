pub mod Filled
pub mod Gated
pub mod Lends
pub mod Odd
pub mod OddLaws
pub mod Table
