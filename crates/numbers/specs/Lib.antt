pub mod Greatest
pub mod Least
pub mod Nearest
