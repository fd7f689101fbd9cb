mod PieceLemmas
mod RecordLemmas
