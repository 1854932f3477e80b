pub mod Node
pub mod NodeLends
pub mod StoreLends
