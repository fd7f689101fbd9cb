mod EntryLemmas
pub mod OrderLemmas
mod OrderChangeLemmas
pub mod NamedLemmas
pub mod ModeLemmas
pub mod ChoiceLemmas
pub mod AskLemmas
pub mod LineLemmas
mod NewsLemmas
pub mod SettleLemmas
pub mod ReceiveLemmas
pub mod TookLemmas
pub mod CursorLemmas
pub mod SameLemmas
