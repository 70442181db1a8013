pub mod Answers
pub mod Loaded
pub mod Near
pub mod Reached
pub mod Sided
