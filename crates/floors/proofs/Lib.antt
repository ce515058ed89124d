pub mod Between
pub mod Modulo
pub mod Counted
pub mod Cases
pub mod Tested
