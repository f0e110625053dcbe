-- What a system of the ring learns by its table, and what it has still to process.
pub mod Parts
pub mod Reading
pub mod Due
