pub mod Meeting
pub mod Neighbours
