pub mod Items
pub mod Known
pub mod Past
pub mod Laws
pub mod Parts
pub mod Told
pub mod Reading
pub mod Passed
