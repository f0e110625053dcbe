pub mod Counting
pub mod GatherSamples
pub mod GatheredParts
pub mod GatherSlots
pub mod TellEach
