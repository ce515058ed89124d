pub mod Neighbour
pub mod Scales
