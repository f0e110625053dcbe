pub mod MaskLaws
pub mod WantLaws
pub mod RemoveLaws
pub mod HistoryLaws
pub mod DeckLaws
pub mod Samples
