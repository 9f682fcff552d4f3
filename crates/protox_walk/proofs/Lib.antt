pub mod Folds
pub mod Levels
pub mod ByPath
pub mod Lemmas
