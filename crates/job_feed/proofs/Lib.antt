pub mod HandingLaws
pub mod SkippingLemmas
