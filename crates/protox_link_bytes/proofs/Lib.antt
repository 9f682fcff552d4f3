pub mod Errors
pub mod Keeping
pub mod Refusing
pub mod Sets
pub mod Sources
pub mod Lemmas
