pub mod Defaults
pub mod Places
pub mod Judge
pub mod Grow
pub mod Reading
pub mod Spells
pub mod EventLines
pub mod Faults
