pub mod Journal
pub mod Entered
pub mod Seats
pub mod Places
pub mod Rule
pub mod Steps
pub mod Slots
