pub mod Samples
pub mod ShelfLaws
