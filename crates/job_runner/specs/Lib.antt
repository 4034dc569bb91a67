pub mod CardList
pub mod DeckText
pub mod Paper
pub mod PaperRead
pub mod Unattended
