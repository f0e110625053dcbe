-- Where the parts of a lock entry are that has still to be gathered, behind any removals: the entry by itself, and how
-- each event of a run moves it.
pub mod Entry
pub mod Changed
pub mod Noticed
pub mod Comes
pub mod Sent
pub mod Removed
pub mod Boxes
pub mod Items
pub mod Steps
pub mod Parts
pub mod Acting
pub mod Knows
pub mod Managing
pub mod Scene
pub mod Acts
pub mod Takes
pub mod Gets
pub mod Sends
pub mod Purges
pub mod Run
