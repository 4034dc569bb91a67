pub mod Piece
pub mod Written
