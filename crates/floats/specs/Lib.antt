pub mod Numbers
pub mod Finite
pub mod MaxMin
pub mod Ahead
pub mod Inner
