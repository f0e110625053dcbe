pub mod Generated
pub mod Rounds
