pub mod Again
pub mod First
pub mod Least
pub mod Loop
pub mod Samples
pub mod Taken
pub mod Whole
