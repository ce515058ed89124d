pub mod Text
pub mod Call
