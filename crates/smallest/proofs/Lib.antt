pub mod Leads
pub mod Through
pub mod Chosen
pub mod Neighbours
pub mod Cutting
pub mod Levels
pub mod Searched
pub mod Choosing
