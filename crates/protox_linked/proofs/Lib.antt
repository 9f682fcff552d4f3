pub mod Nesting
pub mod Keeping
pub mod Twice
pub mod Lemmas
