pub mod Firsts
pub mod Prints
