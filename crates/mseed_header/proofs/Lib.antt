pub mod TrimLemmas
pub mod ChainLemmas
pub mod HeaderLemmas
pub mod RangeLemmas
pub mod LayoutLemmas
