pub mod Reader
pub mod Record
pub mod Sound
