pub mod PositionLemmas
pub mod WantLemmas
pub mod NextLemmas
pub mod PacketLemmas
pub mod KeptLemmas
pub mod ChooseLemmas
pub mod ScanLemmas
pub mod CursorLemmas
pub mod LostLemmas
pub mod RestLemmas
pub mod FirstsLemmas
pub mod StartLemmas
pub mod PassedLemmas
pub mod RequestLemmas
pub mod SleepLemmas
pub mod EntryLemmas
pub mod BestLemmas
mod EarliestLemmas
pub mod FilterLemmas
pub mod SearchLemmas
mod RefusedLemmas
pub mod AloneLemmas
pub mod SentLemmas
pub mod RunLemmas
