pub mod OwnerLemmas
pub mod LawProofs
