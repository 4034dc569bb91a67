mod AskedExamples
pub mod AskedLemmas
pub mod ManyLinesLemmas
pub mod PiecesLemmas
pub mod RowLemmas
pub mod SeatPageLemmas
pub mod ShowingLemmas
pub mod TakingLemmas
