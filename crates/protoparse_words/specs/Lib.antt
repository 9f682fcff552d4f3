pub mod Names
pub mod Asking
pub mod Listing
pub mod Naming
