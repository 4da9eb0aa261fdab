pub mod Values
pub mod Shifts
pub mod Digits
pub mod Patterns
