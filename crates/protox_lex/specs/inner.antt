pub mod Sharing
pub mod RowList
pub mod Grouping
pub mod Stretches
