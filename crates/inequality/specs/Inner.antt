pub mod Held
pub mod Staying
pub mod Weights
