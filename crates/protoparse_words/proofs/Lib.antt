pub mod Lists
pub mod Under
pub mod Folders
pub mod FilePaths
