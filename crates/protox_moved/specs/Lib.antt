pub mod Moved
pub mod inner
