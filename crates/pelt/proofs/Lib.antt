pub mod Cuts
pub mod FirstGap
pub mod Slots
