pub mod Ending
pub mod Serving
pub mod Words
