pub mod AreaLemmas
mod BranchExamples
mod CardExamples
pub mod CardsAndPrinterLemmas
mod CardsExamples
mod CarryOutExamples
pub mod CellsLemmas
pub mod ChainingLemmas
mod CompareExamples
pub mod DecodeCacheLemmas
pub mod DecodedFittedLemmas
pub mod DecodedLemmas
pub mod ExampleCells
pub mod FairLemmas
pub mod FeatureLemmas
mod FetchedExamples
pub mod FetchedLemmas
pub mod FittedFrameLemmas
pub mod FittedLemmas
pub mod FittedUseLemmas
pub mod FittingExamples
pub mod FittingLemmas
mod FrameExamples
pub mod FrameLemmas
pub mod NeededPlacesLemmas
mod ProductExamples
mod RegisterExamples
pub mod RunLemmas
mod StepExamples
pub mod StorageLemmas
pub mod UseLemmas
