pub mod Migrate
pub mod Groups
pub mod Laws
