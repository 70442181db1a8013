pub mod Worked
pub mod Loops
