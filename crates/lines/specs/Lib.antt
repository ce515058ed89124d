pub mod Passed
pub mod Hex
