pub mod Calls
pub mod Granted
pub mod Latches
pub mod Limits
pub mod Numbered
pub mod Places
