pub mod Picks
pub mod SameLaws
pub mod NameLaws
pub mod ListLaws
pub mod FrontLaws
pub mod StateLaws
pub mod OrderLaws
pub mod Samples
