pub mod Ends
pub mod Line
pub mod Run
