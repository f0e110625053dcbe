-- The records of a system's tasks beside its lists.
pub mod Marks
pub mod Places
pub mod Control
pub mod ToldAll
pub mod Lists
pub mod Deciding
