pub mod Least
pub mod Start
