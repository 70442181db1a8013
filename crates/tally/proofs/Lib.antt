pub mod Scanned
pub mod Counted
pub mod Loaded
pub mod Column
