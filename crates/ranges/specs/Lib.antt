pub mod Ranges
pub mod Inner
