pub mod Written
pub mod Fitting
pub mod Blanks
pub mod Part
pub mod Put
