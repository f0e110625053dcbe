-- What a system knows of a task, and what comes.
pub mod Control
pub mod Fronts
pub mod ItemLaws
pub mod Knowing
pub mod Coming
pub mod Blank
pub mod Pasts
pub mod Fitting
pub mod Histories
pub mod Knows
pub mod Following
