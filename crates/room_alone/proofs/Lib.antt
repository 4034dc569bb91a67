pub mod AnsweringLemmas
mod GlanceExamples
mod JournalExamples
pub mod KeptLemmas
pub mod ReadingLemmas
mod ReplayExamples
pub mod ReplayLemmas
mod SessionEndExamples
mod SessionExamples
pub mod SessionLemmas
pub mod TextLemmas
pub mod TurnsLemmas
