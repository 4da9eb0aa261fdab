pub mod PieceLaws
pub mod SpreadLaws
pub mod GapLaws
pub mod Examples
