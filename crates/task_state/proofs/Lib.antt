pub mod ViewLaws
pub mod NumberLaws
pub mod Stays
pub mod UnitLaws
pub mod Keeps
pub mod Fronts
