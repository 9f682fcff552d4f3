pub mod Fields
pub mod Failure
pub mod Names
pub mod Settings
pub mod Texts
