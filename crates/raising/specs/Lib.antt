pub mod Squares
pub mod Biased
