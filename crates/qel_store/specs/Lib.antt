pub mod Items
pub mod Rings
pub mod Numbered
pub mod Stored
pub mod Heads
pub mod Tasks
pub mod Linked
