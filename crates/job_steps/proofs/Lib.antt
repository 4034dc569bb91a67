pub mod BlockLemmas
pub mod ChangeLemmas
mod ClaimedLemmas
pub mod HaltLemmas
pub mod PlaceLemmas
mod ProductReasonLemmas
mod StopLemmas
mod TapeLemmas
pub mod ToldLemmas
mod TraceExamples
pub mod WalkLemmas
