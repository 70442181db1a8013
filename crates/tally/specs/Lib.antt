pub mod Tally
pub mod Column
