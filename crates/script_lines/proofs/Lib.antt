pub mod WordLemmas
pub mod LineLemmas
pub mod AtomLemmas
pub mod BreakLemmas
pub mod NumberLemmas
pub mod ReadReasons
