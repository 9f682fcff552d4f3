pub mod Clashes
pub mod Numbers
pub mod Message
pub mod Enums
pub mod Parts
pub mod Rising
