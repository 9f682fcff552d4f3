pub mod Marks
pub mod Few
