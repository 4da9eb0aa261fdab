pub mod NumberLaws
pub mod AreaLaws
pub mod ChannelLaws
pub mod RequestLaws
pub mod ParsedLaws
pub mod Examples
