mod CardCodeExamples
pub mod CardCodeLemmas
mod CollationExamples
pub mod CollationLemmas
pub mod GraphicLemmas
mod GraphicsExamples
pub mod GraphicsLemmas
