pub mod Equal
pub mod Pascal
pub mod Sameness
pub mod Written
pub mod Lemmas
