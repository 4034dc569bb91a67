pub mod Changes
pub mod FieldReason
pub mod Halting
pub mod Reason
pub mod Said
pub mod TapeReason
pub mod Told
pub mod TraceLine
