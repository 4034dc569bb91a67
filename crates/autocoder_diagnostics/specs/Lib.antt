pub mod Declarations
pub mod Explanation
pub mod FirstFault
pub mod Noted
pub mod Notes
pub mod OwnFault
pub mod ToldFaults
