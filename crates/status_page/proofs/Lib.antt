mod EscapeLemmas
mod HostLemmas
mod LoopLemmas
mod MinuteLemmas
