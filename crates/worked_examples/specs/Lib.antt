pub mod Calls
pub mod Rows
pub mod Marked
pub mod Further
