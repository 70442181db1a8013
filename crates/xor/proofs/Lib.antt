pub mod Added
pub mod Parts
pub mod Spots
pub mod Strided
pub mod Listed
