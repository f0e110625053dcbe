-- The run of a complex that changes from ring to star mode.
pub mod Ranks
pub mod TableRanks
pub mod Parts
pub mod Changing
pub mod Star
pub mod Late
pub mod Waiting
pub mod Moved
pub mod Begin
pub mod Decks
pub mod Sound
pub mod Kept
pub mod Roles
