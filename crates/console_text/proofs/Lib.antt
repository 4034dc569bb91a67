mod AnswerTextExamples
pub mod CardTextLemmas
mod CommandTextExamples
pub mod CommandTextLemmas
mod ConsoleLineExamples
mod FitTextExamples
pub mod FitTextLemmas
mod LineTextExamples
pub mod LineTextLemmas
pub mod SayableLemmas
pub mod WordLemmas
