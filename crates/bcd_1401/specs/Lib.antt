pub mod CardCode
pub mod Character
pub mod Collation
pub mod Digits
pub mod Graphic
pub mod Graphics
pub mod Suggestion
