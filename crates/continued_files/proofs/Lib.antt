mod RunLemmas
pub mod TailLemmas
mod KnownLemmas
mod StepLemmas
mod NamesLemmas
