mod DigitLemmas
pub mod SpellingLemmas
