pub mod CountLemmas
pub mod DeckLemmas
pub mod PutsLemmas
mod ReelExamples
pub mod ReelListingLemmas
pub mod ReelTextLemmas
pub mod TablesLemmas
