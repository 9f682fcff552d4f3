pub mod Spans
pub mod Sharing
pub mod inner
