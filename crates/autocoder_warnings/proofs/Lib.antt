pub mod FeaturesLemmas
pub mod FewerLemmas
pub mod FittedLemmas
pub mod LostLemmas
pub mod OverlapLemmas
pub mod PlainWarningsLemmas
mod WarningsExamples
