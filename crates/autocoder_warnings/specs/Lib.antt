pub mod FittedNotes
pub mod Loss
pub mod Lost
pub mod Overlap
pub mod Warnings
