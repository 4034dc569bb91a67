pub mod FileSize
pub mod Limits
