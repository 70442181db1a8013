pub mod Parted
pub mod Ways
