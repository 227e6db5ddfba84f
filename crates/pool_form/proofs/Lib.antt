pub mod Pieces
pub mod Groups
