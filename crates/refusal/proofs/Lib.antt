pub mod Gathered
pub mod Range
pub mod Numbers
