pub mod Cuts
pub mod Backtracked
pub mod Pieces
pub mod Inner
