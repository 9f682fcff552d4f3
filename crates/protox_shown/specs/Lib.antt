pub mod Shown
pub mod Line
