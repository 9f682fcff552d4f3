pub mod Written
pub mod Nesting
