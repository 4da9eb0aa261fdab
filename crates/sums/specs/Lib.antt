pub mod Sums
pub mod EachChannel
pub mod Inner
