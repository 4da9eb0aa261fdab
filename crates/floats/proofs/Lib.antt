pub mod Order
pub mod Examples
pub mod Endless
pub mod Exact
pub mod MinusZero
pub mod WholeTimes
