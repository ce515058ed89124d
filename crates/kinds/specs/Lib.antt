pub mod Operation
pub mod Rounding
pub mod Guard
pub mod Flag
pub mod Question
pub mod Refusal
