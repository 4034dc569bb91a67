pub mod ChoiceLemmas
pub mod EntryLemmas
pub mod ReadsLemmas
mod ShowingLemmas
pub mod TabLemmas
pub mod TextLemmas
mod VerifyingLemmas
