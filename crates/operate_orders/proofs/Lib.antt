mod ActExamples
pub mod ListLemmas
mod LookExamples
mod NoteExamples
pub mod Says
pub mod TextLemmas
mod WordExamples
