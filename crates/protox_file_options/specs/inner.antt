pub mod Added
pub mod Counts
