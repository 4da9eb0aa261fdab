pub mod Inner
pub mod Losing
