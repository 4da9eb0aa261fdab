pub mod Costs
pub mod Penalties
pub mod Summed
