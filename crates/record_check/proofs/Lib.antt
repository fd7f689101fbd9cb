mod CheckLemmas
mod FindingLemmas
mod IndexLemmas
mod TextLemmas
mod PieceLemmas
mod StreamLemmas
mod OrderLemmas
