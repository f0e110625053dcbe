-- Lists of any items, truth values, the lists of elements, and lines and their entries.
pub mod Owners
pub mod Entries
pub mod Lines
pub mod Own
pub mod Truths
pub mod Facts
pub mod Elements
pub mod Requests
pub mod Parts
pub mod All
pub mod Placed
pub mod Alike
pub mod Rows
pub mod Shows
