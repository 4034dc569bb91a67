pub mod Assemble
pub mod Decks
pub mod Did
pub mod Disassemble
pub mod Parity
pub mod ReadyTables
pub mod ReelListing
pub mod Writing
