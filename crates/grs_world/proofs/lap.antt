-- A lap of the message.
pub mod Places
pub mod Old
pub mod Phases
pub mod Turns
pub mod Held
pub mod Ends
