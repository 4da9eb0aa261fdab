pub mod Order
pub mod Median
pub mod Inner
