pub mod Same
pub mod Notices
pub mod Laws
pub mod Text
