pub mod Marks
pub mod Names
pub mod Scalars
pub mod Cutting
pub mod Reading
