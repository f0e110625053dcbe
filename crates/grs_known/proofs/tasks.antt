-- What holds of a task by its past.
pub mod Invariant
pub mod Speaking
pub mod Others
pub mod Records
pub mod Granted
pub mod Keys
pub mod Asked
pub mod Decided
pub mod Steps
pub mod Looks
pub mod UpToDate
pub mod Answered
