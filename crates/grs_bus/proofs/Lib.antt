pub mod Samples
pub mod JournalLaws
pub mod EntryLaws
pub mod RuleLaws
pub mod CallLaws
pub mod EndLaws
