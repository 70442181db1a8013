pub mod Picked
pub mod Turns
pub mod Held
