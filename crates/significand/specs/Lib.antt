pub mod Width
pub mod Steps
pub mod Printed
pub mod Tables
pub mod Call
pub mod Distance
pub mod Rows
