pub mod Depends
pub mod Greatest
pub mod Walk
pub mod Waits
pub mod Text
pub mod Numbered
pub mod Deadlocks
