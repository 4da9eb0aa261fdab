pub mod Exponents
pub mod Scaling
