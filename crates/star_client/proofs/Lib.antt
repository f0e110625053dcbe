pub mod ApartLaws
pub mod RankLaws
pub mod Samples
