pub mod Image
pub mod Parse
pub mod Reading
pub mod Gives
pub mod Saved
pub mod Stored
pub mod SavedLaws
pub mod Written
