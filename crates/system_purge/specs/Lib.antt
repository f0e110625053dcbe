pub mod Purge
pub mod Gather
pub mod Gathers
