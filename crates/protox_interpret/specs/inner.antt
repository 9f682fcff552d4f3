pub mod Given
pub mod Kept
