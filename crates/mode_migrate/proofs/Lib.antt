pub mod SmallRanks
pub mod Rows
pub mod PartLaws
pub mod WordLaws
pub mod TableWords
pub mod GroupLaws
pub mod Samples
