pub mod Errors
pub mod Texts
pub mod Opened
pub use Rattle.btree_image.specs.Saved
-- what callers conclude from them
pub mod OpenedLaws
pub use Rattle.btree_image.specs.SavedLaws
