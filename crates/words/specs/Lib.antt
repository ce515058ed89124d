pub mod Word
pub mod Signed
pub mod Parts
pub mod Splice
pub mod Joined
