pub mod Parts
pub mod Limits
