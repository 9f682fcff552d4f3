pub mod Exact
pub mod Floats
pub mod Messages
pub mod Payloads
pub mod Pooled
pub mod Reading
pub mod Wire
