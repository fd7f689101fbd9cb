pub mod FollowsLemmas
pub mod HearingLemmas
pub mod TogetherLemmas
pub mod WantLineLemmas
