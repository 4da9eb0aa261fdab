pub mod Examples
pub mod Laws
pub mod RootBound
pub mod RootSign
pub mod Square
pub mod LogarithmSign
pub mod LnTwo
pub mod LastStep
