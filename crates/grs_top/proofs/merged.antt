-- Systems that ran beside each other: their merged events are a run.
pub mod Shows
pub mod Quiet
pub mod Live
pub mod Cuts
pub mod Fronts
pub mod MergedRuns
pub mod SeenLaws
