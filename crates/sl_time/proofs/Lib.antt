mod CalendarLemmas
mod PartLemmas
pub mod DateLemmas
pub mod MomentLemmas
pub mod ReadLemmas
mod WorkedMoments
