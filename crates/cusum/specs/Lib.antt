pub mod Chart
pub mod RunLength
pub mod Promise
