pub mod CharacterLemmas
pub mod DigitLemmas
mod InstructionTextExamples
pub mod LengthLemmas
pub mod MissingLemmas
pub mod NumberLemmas
pub mod PrefixLemmas
pub mod RoomLemmas
pub mod SpelledLemmas
