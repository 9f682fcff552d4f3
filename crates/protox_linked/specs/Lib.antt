pub mod Linked
pub mod Kept
