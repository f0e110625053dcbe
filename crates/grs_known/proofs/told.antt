-- What a system was told on the way, against the history.
pub mod Behind
pub mod News
