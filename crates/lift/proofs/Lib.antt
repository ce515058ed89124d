pub mod Records
pub mod Reaching
