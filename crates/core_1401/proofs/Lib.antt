mod AddressExamples
pub mod AddressTableLemmas
pub mod BitLemmas
pub mod CellsLemmas
pub mod ClearLemmas
pub mod CompareLemmas
pub mod EightCellsLemmas
mod FieldExamples
pub mod FieldLemmas
pub mod HeldLemmas
pub mod LendingLemmas
mod MarkWordExamples
pub mod MarkWordLemmas
mod PlacesExamples
pub mod PlacesLemmas
pub mod PlaceSetLemmas
pub mod ShortCopyLemmas
pub mod SizeLemmas
