pub mod Types
pub mod Values
pub mod Wire
pub mod Enums
pub mod Texts
