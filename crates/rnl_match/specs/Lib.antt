pub mod Matches
pub mod Index
