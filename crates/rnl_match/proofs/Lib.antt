pub mod SearchLaws
pub mod IndexLaws
pub mod Samples
