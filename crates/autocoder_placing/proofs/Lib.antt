pub mod CellsLemmas
pub mod CharactersLemmas
pub mod CoreLemmas
pub mod FrontLemmas
pub mod LawLemmas
mod PlacementExamples
pub mod PlacementLawLemmas
pub mod PlacingLemmas
pub mod StandingLemmas
pub mod UnplacedLemmas
pub mod UsedLemmas
