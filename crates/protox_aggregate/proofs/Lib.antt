pub mod Outer
pub mod Whole
pub mod SameSteps
pub mod Lemmas
