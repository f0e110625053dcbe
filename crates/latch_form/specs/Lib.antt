pub mod Drafts
pub mod Faults
pub mod Form
pub mod Reading
pub mod Spelled
