mod DifferenceLemmas
mod LineLemmas
pub mod OwnerLemmas
pub mod StationLemmas
mod SeenLemmas
mod HolderLemmas
mod EntryLemmas
mod PieceLemmas
mod FaultLemmas
mod NamingLemmas
mod SilenceLemmas
mod OpenedLemmas
mod UserLemmas
mod KeyLemmas
mod RemarkLemmas
mod AloneLemmas
mod CoverageLemmas
mod PartLemmas
mod ChangeLemmas
mod GainLemmas
mod GainLaw
mod ValueLineLemmas
