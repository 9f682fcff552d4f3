pub mod Searching
pub mod Naming
pub mod Placing
