pub mod Judged
pub mod Answers
