mod SendLemmas
pub mod CutterLemmas
