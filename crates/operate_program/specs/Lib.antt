pub mod Act
pub mod Comparison
pub mod Field
pub mod Known
pub mod Range
pub mod Source
pub mod Statement
pub mod Value
