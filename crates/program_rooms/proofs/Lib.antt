mod BeginningLemmas
pub mod KeptLemmas
pub mod LoadLemmas
pub mod NamedLemmas
pub mod PagesLemmas
