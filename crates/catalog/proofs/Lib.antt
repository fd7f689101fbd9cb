mod DistinctLemmas
mod ElementLemmas
mod FailingLemmas
mod FindLemmas
mod GroupLemmas
mod IndexLemmas
mod OrderLemmas
mod ReadLemmas
mod ViewLemmas
mod SameLemmas
mod ChangesLemmas
pub mod NumberLemmas
