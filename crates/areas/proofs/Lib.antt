pub mod ClearedLaws
pub mod PartLaws
