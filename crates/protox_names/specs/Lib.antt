pub mod Names
pub mod Cases
pub mod Tree
pub mod Unique
pub mod inner
