pub mod Shifts
pub mod Below
pub mod Results
pub mod Halving
