pub mod Attributing
pub mod Lemmas
