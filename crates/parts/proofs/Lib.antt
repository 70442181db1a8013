pub mod Filled
pub mod Ways
pub mod Bridges
pub mod Parted
pub mod Read
pub mod Judged
