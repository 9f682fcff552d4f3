pub mod Names
pub mod Strings
pub mod Reads
pub mod Outcome
pub mod Notes
pub mod Words
