pub mod Promised
pub mod Each
