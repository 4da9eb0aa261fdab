pub mod Form
pub mod Parsed
pub mod Inner
