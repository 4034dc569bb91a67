pub mod Mounted
pub mod SourceSize
pub mod Options
pub mod Calls
pub mod Features
pub mod Mounting
