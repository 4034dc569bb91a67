pub mod Card
pub mod Carriage
pub mod Control
pub mod Devices
pub mod Fault
pub mod Movement
