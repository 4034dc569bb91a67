pub mod BlanksLemmas
pub mod CrossReferenceLemmas
pub mod DigitsLemmas
pub mod HeadsLemmas
pub mod PagesLemmas
pub mod RowLawLemmas
pub mod RowsLemmas
mod HeadsExamples
mod PlacingExamples
mod RowsExamples
mod TablesExamples
