pub mod LoopLemmas
pub mod MergeLaws
pub mod Samples
