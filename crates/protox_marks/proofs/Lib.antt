pub mod Bits
pub mod Words
pub mod Lemmas
