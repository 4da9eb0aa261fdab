pub mod Walk
pub mod CusumPut
pub mod EwmaPut
