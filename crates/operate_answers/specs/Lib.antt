pub mod Answers
pub mod Asked
pub mod Counted
pub mod Done
pub mod StopTest
pub mod StopText
pub mod Stops
pub mod Typed
