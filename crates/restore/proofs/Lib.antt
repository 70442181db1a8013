pub mod Steps
pub mod Zeros
pub mod Judged
pub mod ByPosition
