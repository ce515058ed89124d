pub mod Distances
pub mod Lifting
