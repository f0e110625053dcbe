pub mod Samples
pub mod CodeLaws
pub mod TurnLaws
pub mod RemovalLemmas
pub mod StepLemmas
pub mod TextLemmas
pub mod CompareLemmas
pub mod EnqLemmas
