mod ContextExamples
pub mod ContextLemmas
mod FlawExamples
pub mod FlawLemmas
pub mod GraphicLemmas
mod LanguageExamples
mod LanguageFlawExamples
pub mod LanguageFlawLemmas
pub mod LanguageLemmas
pub mod NumbersLemmas
mod LiteralExamples
mod OperandExamples
pub mod PrefixLemmas
pub mod RowLemmas
pub mod SizeLemmas
mod SourceLineExamples
pub mod SourceLineLemmas
mod StatementExamples
pub mod WideAreasLemmas
mod WideBodyExamples
mod WideExamples
