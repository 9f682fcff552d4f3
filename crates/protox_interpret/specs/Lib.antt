pub mod Braces
pub mod Failure
pub mod Settings
pub mod Sites
pub mod Statements
pub mod Answers
pub mod inner
