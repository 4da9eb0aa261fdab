pub mod Lines
pub mod Written
pub mod Inner
