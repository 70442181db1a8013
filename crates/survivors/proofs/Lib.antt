pub mod Parts
pub mod Judged
pub mod ByPosition
