pub mod OfferLemmas
pub mod StandsLemmas
pub mod RunLemmas
pub mod ArriveLemmas
pub mod NumberLemmas
pub mod SlotLemmas
pub mod SessionLemmas
pub mod TakeLemmas
pub mod WordLemmas
pub mod RowLemmas
pub mod MarkLemmas
pub mod SpareLemmas
mod ReloadLemmas
mod NewsLemmas
mod CurrentLemmas
mod AmongLemmas
mod FillLemmas
