pub mod Format
pub mod Parts
pub mod Operand
pub mod Answer
