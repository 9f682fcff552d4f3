pub mod Added
pub mod Rising
