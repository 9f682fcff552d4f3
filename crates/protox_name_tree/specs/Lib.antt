pub mod Slots
pub mod Numbered
pub mod Keys
pub mod Sound
pub mod Tree
pub mod Word
