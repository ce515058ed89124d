pub mod Closest
pub mod Patterns
pub mod Plain
pub mod Product
pub mod Widths
pub mod Ends
pub mod Returned
