pub mod CrossReference
pub mod Heads
pub mod Listing
pub mod Pages
pub mod Rows
pub mod SymbolTable
pub mod View
pub mod Writing
