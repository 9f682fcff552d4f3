pub mod Bytes
pub mod inner
