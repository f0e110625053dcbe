pub mod Client
pub mod Laws
pub mod Owes
