pub mod Order
pub mod Searching
pub mod Adding
pub mod Places
pub mod Stepping
pub mod Lemmas
