pub mod Tried
pub mod Words
