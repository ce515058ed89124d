pub mod Inverse
pub mod Settled
