pub mod Words
pub mod Laws
pub mod Entries
pub mod RankedRows
pub mod Least
pub mod Purge
pub mod PurgeLaws
