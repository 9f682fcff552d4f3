pub mod Rows
pub mod Expected
pub mod inner
