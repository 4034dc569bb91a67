mod AcrossLemmas
mod AddressExamples
mod AddressLemmas
mod ArithmeticExamples
mod ArithmeticLemmas
mod BorrowLemmas
mod ColumnLemmas
mod ColumnSizeLemmas
mod CompareExamples
pub mod CompareLemmas
pub mod DivideLemmas
mod DivisionLemmas
mod EditExamples
mod EditLemmas
mod EditPassLemmas
mod ExampleCells
mod ExampleGraphics
pub mod FieldLemmas
mod FigureLemmas
mod LaneLemmas
mod LawLemmas
mod LendingLemmas
mod LoadExamples
pub mod LoadLemmas
mod MagnitudeLemmas
mod MarksExamples
mod MoveExamples
mod MoveLemmas
pub mod NumberLemmas
mod OutsideLemmas
mod PairLaneLemmas
mod PartLemmas
mod PartsExamples
mod PartsLemmas
pub mod PlacesLemmas
mod PlainLemmas
mod ProductColumnLemmas
mod ProductExampleCells
mod ProductExamples
mod ProductLemmas
mod ProductNumberLemmas
mod ProductPlainLemmas
mod QuotientExamples
mod QuotientLemmas
pub mod ReadLemmas
mod RecordExamples
mod RecordLemmas
mod RefusalLemmas
mod SixteenLemmas
mod SixteenPlacesLemmas
mod SubtractionLemmas
mod SuppressExamples
mod SuppressLemmas
mod TakenLemmas
mod TermLemmas
mod TwoNumberLemmas
