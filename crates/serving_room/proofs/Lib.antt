pub mod GivingLemmas
pub mod InputLemmas
pub mod PlacesLemmas
mod HoldsExamples
