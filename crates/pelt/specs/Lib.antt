pub mod Detected
pub mod Promise
