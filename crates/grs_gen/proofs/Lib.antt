mod Ranges
mod DeckLaws
mod Samples
mod RoundLemmas
