pub mod Pruned
pub mod Inner
