pub mod Listed
pub mod Nested
