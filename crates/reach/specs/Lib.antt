pub mod Reached
pub mod Members
