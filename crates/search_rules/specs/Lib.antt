pub mod Limits
pub mod Functional
pub mod Partitioned
pub mod Inequality
pub mod Minimum
pub mod Predecessors
pub mod Room
