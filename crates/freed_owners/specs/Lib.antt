pub mod Freed
pub mod FreedLaws
