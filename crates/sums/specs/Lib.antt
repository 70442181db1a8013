pub mod Held
pub mod Cut
