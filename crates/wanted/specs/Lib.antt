pub mod Side
pub mod Found
