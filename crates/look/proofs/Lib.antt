pub mod Part
pub mod Present
