pub mod Whole
pub mod Buffers
