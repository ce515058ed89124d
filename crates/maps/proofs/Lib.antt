pub mod Questions
pub mod Heights
pub mod Words
