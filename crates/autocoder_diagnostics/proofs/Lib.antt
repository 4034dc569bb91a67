mod ChainsExamples
pub mod ChainsLemmas
pub mod ExplanationLemmas
pub mod FirstFaultLemmas
pub mod LowestLemmas
pub mod NotesLemmas
pub mod SoundLemmas
pub mod ToldFaultsLemmas
