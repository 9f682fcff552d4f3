pub mod File
pub mod NamePaths
pub mod Names
pub mod Commented
pub mod inner
pub mod Repeats
pub mod Pooled
