pub mod Estimate
pub mod Plain
