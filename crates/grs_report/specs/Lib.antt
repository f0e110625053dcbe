pub mod Spelled
pub mod Schedule
pub mod History
pub mod Told
pub mod Shelves
pub mod State
pub mod Ends
pub mod Report
