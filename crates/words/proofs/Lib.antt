pub mod Splicing
pub mod Runs
pub mod Differences
pub mod Standing
pub mod Bits
