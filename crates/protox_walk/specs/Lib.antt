pub mod Parts
pub mod Words
pub mod Declarations
pub mod Names
pub mod Steps
