pub mod Answers
pub mod Linked
pub mod LinkedOptions
pub mod Outcomes
