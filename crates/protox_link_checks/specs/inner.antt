pub mod Sets
pub mod Bare
