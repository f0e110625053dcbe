pub mod Standing
pub mod Samples
pub mod WalkLaws
pub mod ScriptLaws
pub mod NextLaws
pub mod CursorLaws
