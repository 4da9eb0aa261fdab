pub mod Columns
pub mod CusumColumns
pub mod Editions
pub mod EwmaColumns
pub mod Inner
