pub mod Search
pub mod Turn
