pub mod WordLemmas
pub mod NameLemmas
pub mod TextLemmas
