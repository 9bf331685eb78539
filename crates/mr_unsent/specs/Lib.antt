pub mod Limits
pub mod Pieces
