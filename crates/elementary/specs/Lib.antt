pub mod Root
pub mod Power
pub mod Logarithm
pub mod LnTwo
pub mod Inner
