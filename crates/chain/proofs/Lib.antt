pub mod Listed
pub mod Groups
pub mod Clean
pub mod Place
