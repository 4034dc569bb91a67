pub mod ClosingLemmas
pub mod HistoryLemmas
pub mod KeepingLemmas
pub mod PaperLemmas
pub mod PrefixLemmas
pub mod PublishLemmas
pub mod RefusalLemmas
pub mod RuleLemmas
mod SeenExamples
pub mod SeenLemmas
