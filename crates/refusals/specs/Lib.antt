pub mod Limits
pub mod Stated
pub mod Tried
pub mod Said
