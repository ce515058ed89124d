pub mod Line
pub mod Entries
