pub mod Inner
pub mod Reach
pub mod Slabs
