pub mod Choice
pub mod JournalText
pub mod Listing
pub mod Reading
pub mod Sessions
pub mod Showing
pub mod Verifying
