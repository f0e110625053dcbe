-- What each kind of event comes to.
pub mod Outcome
pub mod Send
pub mod Take
pub mod Task
pub mod Tell
pub mod Words
pub mod Settle
pub mod Leave
pub mod Desk
