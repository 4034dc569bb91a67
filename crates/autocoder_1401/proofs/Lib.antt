mod AllFaultsExamples
pub mod AllFaultsLemmas
mod AssemblyExamples
pub mod AssemblyLemmas
pub mod ExplainingLemmas
mod ExplanationExamples
mod LanguageExamples
pub mod LanguagesLemmas
