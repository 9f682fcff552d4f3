pub mod Counting
pub mod Meeting
pub mod Pieces
pub mod Filling
pub mod Searching
pub mod Shared
pub mod AnyMet
