pub mod SumLaws
pub mod Outcomes
pub mod ChannelLaws
pub mod StartLaws
