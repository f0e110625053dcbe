pub mod OrderLaws
pub mod Stands
pub mod Samples
