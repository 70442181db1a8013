pub mod Answers
pub mod Begun
