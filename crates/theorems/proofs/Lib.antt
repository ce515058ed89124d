pub mod Bracket
pub mod Table
pub mod Table64
pub mod ReadBack
pub mod Lifted
pub mod Sticky
pub mod Packed
pub mod Filled
