pub mod Leads
pub mod Ways
