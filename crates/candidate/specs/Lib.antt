pub mod Boxes
pub mod Balls
pub mod Cuts
pub mod Dominated
pub mod Losses
pub mod Inner
