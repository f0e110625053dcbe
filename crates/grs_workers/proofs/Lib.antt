pub mod Choices
pub mod Fits
pub mod LeftOut
pub mod DeedLaws
pub mod RoundLaws
pub mod Popped
pub mod FirstStands
pub mod RanLaws
mod Samples
