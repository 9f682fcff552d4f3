pub mod Enums
pub mod Failure
pub mod Scalars
pub mod inner
