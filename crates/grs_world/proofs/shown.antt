-- What the live systems show together in a star that loses nobody.
pub mod Sorted
pub mod ByTask
pub mod Names
pub mod OnRecord
pub mod Rising
pub mod CaughtUp
pub mod Together
pub mod Mail
pub mod Lists
pub mod Behind
pub mod Removal
pub mod Run
pub mod FirstRemoval
