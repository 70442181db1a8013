pub mod Blocks
pub mod Stripes
pub mod Runs
pub mod Whole
pub mod Cuts
