-- The end of a run whose systems ran beside each other: the world is at rest.
pub mod Pending
pub mod Flags
pub mod Idle
pub mod Informed
pub mod Ended
pub mod Merged
