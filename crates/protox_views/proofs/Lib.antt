mod Found
mod Files
pub mod Seen
pub mod Ways
mod Resolved
pub mod Lemmas
