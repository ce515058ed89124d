pub mod Bracket
pub mod Table
pub mod Table64
pub mod ReadBack
pub mod Lifted
