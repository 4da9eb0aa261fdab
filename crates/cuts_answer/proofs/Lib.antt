pub mod AnswerLaws
pub mod Limits
