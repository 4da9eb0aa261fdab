pub mod Contracts
pub mod Equal
pub mod Tables
pub mod Limits
