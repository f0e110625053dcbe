mod PurgeLemmas
pub mod SetLemmas
pub mod LatchLemmas
pub mod NumberLemmas
mod GrantLemmas
mod LawLemmas
mod OneLemmas
pub mod WorkedRows
