mod ExampleCells
mod FieldExamples
pub mod FieldLemmas
pub mod FieldTextLemmas
pub mod LineLemmas
pub mod NumberLemmas
pub mod PaperLemmas
pub mod RulerLemmas
pub mod ValueLemmas
mod ViewExamples
