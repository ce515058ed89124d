pub mod Questions
pub mod Written
