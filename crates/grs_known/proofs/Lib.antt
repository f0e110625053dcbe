pub mod lists
pub mod tasks
pub mod known
pub mod ring
pub mod system
pub mod told
pub mod Samples
pub mod records
