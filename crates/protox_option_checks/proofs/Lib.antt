pub mod Gathered
pub mod Naming
pub mod Steps
pub mod Rising
