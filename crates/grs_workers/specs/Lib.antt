pub mod Makes
pub mod Stands
pub mod Rounds
pub mod Beside
