pub mod NoteLemmas
pub mod VisitorLemmas
