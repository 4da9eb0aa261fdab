pub mod NoiseLaws
pub mod Outcomes
pub mod Examples
pub mod StartLaws
