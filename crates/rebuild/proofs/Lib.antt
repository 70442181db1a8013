pub mod Marks
pub mod Made
pub mod Answers
