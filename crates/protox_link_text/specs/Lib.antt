pub mod Errors
pub mod Places
pub mod Named
pub mod Clashes
pub mod Search
pub mod Told
