-- Where the requests are that tasks have sent, behind any removals: each is settled at most once.
pub mod Lists
pub mod Boxes
pub mod Step
pub mod Acts
pub mod Takes
pub mod Ready
pub mod Silent
pub mod Removes
pub mod Hushed
pub mod Run
pub mod Control
pub mod Controls
pub mod ControlRun
