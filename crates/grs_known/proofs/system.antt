-- The tasks of one system: what holds of each, and what the words of an event do to them.
pub mod Says
pub mod Asking
pub mod Ours
pub mod Telling
pub mod Did
pub mod Good
pub mod Events
pub mod Outstanding
pub mod Turns
pub mod Askers
pub mod Busy
pub mod Displays
