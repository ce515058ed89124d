pub mod Offset
pub mod Centre
pub mod Bracket
