pub mod Answer
pub mod Inner
