pub mod View
pub mod Numbers
pub mod Units
pub mod Replies
