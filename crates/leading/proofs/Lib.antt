pub mod Exponents
pub mod Significands
