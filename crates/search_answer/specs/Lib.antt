pub mod Tests
pub mod Search
pub mod Outcome
pub mod Promise
pub mod Inner
