pub mod inner
pub mod Rounded
pub mod Texts
