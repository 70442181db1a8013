pub mod Summed
pub mod ByPosition
pub mod Answers
