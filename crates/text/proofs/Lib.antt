pub mod Whole
pub mod Rows
