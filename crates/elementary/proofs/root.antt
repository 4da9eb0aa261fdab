pub mod Digits
pub mod Roots
pub mod Scaled
pub mod Settles
pub mod Cases
pub mod Closest
