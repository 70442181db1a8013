pub mod Parts
pub mod Strided
pub mod Picked
pub mod Spots
