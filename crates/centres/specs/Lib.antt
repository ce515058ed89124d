pub mod Prepared
pub mod Words
