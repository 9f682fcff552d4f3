pub mod Parts
pub mod Paths
pub mod Types
