pub mod Views
pub mod Packages
pub mod FilesOf
