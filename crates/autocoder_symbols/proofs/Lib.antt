pub mod ChainLawLemmas
pub mod ChainLinksLemmas
pub mod KeptLinesLemmas
pub mod UnreadLemmas
pub mod ReadingLemmas
pub mod SymbolsLemmas
