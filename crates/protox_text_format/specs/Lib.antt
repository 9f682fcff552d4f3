pub mod Failure
pub mod Pieces
pub mod Spelling
pub mod Alike
pub mod inner
