pub mod Words
pub mod Steps
pub mod Search
pub mod Rest
pub mod Levelled
