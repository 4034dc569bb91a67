pub mod Page
pub mod Sink
