pub mod TableLemmas
mod ReadLemmas
mod TextLemmas
pub mod TableKeeping
mod PlainTexts
mod LineLemmas
mod DocumentLemmas
pub mod ComeBackLemmas
pub mod KeepableLemmas
