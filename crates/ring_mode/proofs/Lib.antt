pub mod WantLaws
pub mod Samples
