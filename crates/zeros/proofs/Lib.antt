pub mod Stored
pub mod Gathered
