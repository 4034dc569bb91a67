pub mod Features
pub mod Fitted
pub mod Operation
pub mod Row
pub mod Rows
pub mod Stop
pub mod SwitchName
pub mod TapeUnit
