pub mod AnyOfLemmas
mod BackExamples
pub mod BackLemmas
pub mod CutLemmas
pub mod FirstEntriesLemmas
pub mod LimitLemmas
pub mod NotesLemmas
mod OneStepLemmas
pub mod PairedLemmas
pub mod PlaceWatchLemmas
pub mod RunOfFoundLemmas
mod SearchExamples
pub mod SearchLemmas
pub mod TendingLemmas
