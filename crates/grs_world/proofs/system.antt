-- One system: what holds of it, and what its events come to.
pub mod Meant
pub mod AtNode
pub mod Processed
pub mod Removed
pub mod Puts
pub mod Free
pub mod Shown
pub mod Quiet
pub mod Begun
pub mod First
pub mod Desks
