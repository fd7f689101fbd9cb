mod ReadLemmas
mod DecidedLemmas
pub mod DeedLemmas
mod StepLemmas
mod WriteLemmas
mod TurnLemmas
pub mod HandsLemmas
mod TableLemmas
mod HearLemmas
mod FeedLemmas
mod FeedStepLemmas
mod SeatPassLemmas
mod PassesLemmas
mod SleepLemmas
mod LeaveLemmas
mod AwakeLemmas
mod FewLemmas
mod FillLemmas
pub mod OfferingLemmas
mod TrafficLemmas
