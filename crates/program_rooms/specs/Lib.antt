pub mod Beginning
pub mod Choosing
pub mod Ended
pub mod Kept
pub mod Load
pub mod Named
pub mod Outcome
pub mod Pages
