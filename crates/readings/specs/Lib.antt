pub mod Shape
pub mod Gaps
pub mod Channels
pub mod FirstGap
pub mod View
