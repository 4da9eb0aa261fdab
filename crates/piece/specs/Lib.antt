pub mod Spread
pub mod Piece
pub mod Inner
