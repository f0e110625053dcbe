pub mod Asks
pub mod Legal
