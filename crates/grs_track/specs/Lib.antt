pub mod Track
pub mod Walk
pub mod Tracks
