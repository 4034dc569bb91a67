pub mod Left
pub mod Packed
pub mod Pages
pub mod ReadyImage
