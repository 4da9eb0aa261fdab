pub mod Cleared
pub mod Parts
