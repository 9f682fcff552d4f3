mod Cut
pub mod Newlines
