mod ArrivalLemmas
mod MinuteLemmas
mod BehindLemmas
mod StationLemmas
