pub mod Neighbours
pub mod Directed
pub mod Questions
pub mod Places
pub mod Ties
pub mod Halves
pub mod Refusals
