pub mod Paths
pub mod inner
