pub mod Chains
pub mod Fault
pub mod KeptLines
pub mod Known
pub mod Reading
pub mod Symbols
pub mod Unread
pub mod View
