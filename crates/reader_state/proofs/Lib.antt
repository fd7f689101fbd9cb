pub mod CutLemmas
pub mod ByteLemmas
pub mod TextLemmas
pub mod ParseLemmas
pub mod FileLemmas
pub mod ApartLemmas
pub mod PartLemmas
pub mod EachLemmas
mod OtherLemmas
