pub mod Memory
pub mod Fitting
pub mod Solving
pub mod Shown
