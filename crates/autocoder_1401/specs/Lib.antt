pub mod AllFaults
pub mod Assembly
pub mod Explaining
pub mod Languages
