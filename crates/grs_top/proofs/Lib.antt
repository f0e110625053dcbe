pub mod merged
pub mod at_rest
pub mod Answering
pub mod Complete
pub mod DueLemmas
pub mod OfDeck
pub mod Doers
pub mod ScheduleTexts
pub mod WordLines
pub mod EventsAgain
mod EventSamples
pub mod ReadBack
pub mod Replayed
pub mod OneHistory
mod StoppedOf
mod OwnReports
pub mod OneItem
mod Samples
mod StarSamples
mod Rounds
mod HistoryLen
mod GenAnswering
mod GenLaws
mod GenLine
mod LeftOut
pub mod Bare
pub mod Unread
