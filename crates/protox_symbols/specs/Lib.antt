pub mod Symbols
pub mod Things
pub mod Scopes
