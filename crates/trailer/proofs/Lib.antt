pub mod Layouts
pub mod Readings
pub mod RoundTrip
pub mod Seeking
pub mod Kept
pub mod Rows
