pub mod Message
pub mod Room
pub mod Places
