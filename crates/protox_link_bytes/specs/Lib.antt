pub mod Given
pub mod Outcomes
pub mod Parsed
pub mod Spelled
