mod ActExamples
pub mod ActLemmas
mod ComparisonExamples
pub mod ComparisonLemmas
mod ExampleProgram
pub mod SourceLemmas
pub mod StatementLemmas
mod ValueExamples
