-- How the words of the code are taken.
pub mod Logged
pub mod Calls
pub mod Nodes
pub mod Happens
pub mod Turns
pub mod Takes
pub mod Lapped
