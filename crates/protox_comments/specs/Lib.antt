pub mod Remarks
pub mod CommentState
pub mod inner
