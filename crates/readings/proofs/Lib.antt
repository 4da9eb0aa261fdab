pub mod LengthLaws
pub mod GapLaws
pub mod ChannelLaws
pub mod Examples
pub mod ShapeLaws
pub mod FirstGapLaws
pub mod ViewLaws
