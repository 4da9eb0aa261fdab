pub mod WalkLaws
pub mod WrittenLaws
pub mod CutLaws
pub mod Examples
