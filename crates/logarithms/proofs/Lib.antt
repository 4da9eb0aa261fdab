pub mod PlainLaws
pub mod EachLaws
pub mod GroupLaws
