pub mod LosingLaws
pub mod Outcomes
