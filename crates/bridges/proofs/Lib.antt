pub mod Forest
pub mod Counted
pub mod Reaching
