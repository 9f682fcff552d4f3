pub mod TextLines
pub mod TextNames
pub mod TextFormat
