pub mod Memory
pub mod Solved
