pub mod Levels
pub mod Lookup
pub mod Unset
