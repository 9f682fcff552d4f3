pub mod Linked
pub mod Setting
pub mod Statements
