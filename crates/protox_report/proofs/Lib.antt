pub mod Chains
pub mod Floors
pub mod Plain
mod Windows
