pub mod MinusZero
