pub mod Specials
pub mod Parted
