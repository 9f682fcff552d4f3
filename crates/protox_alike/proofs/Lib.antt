pub mod Firsts
pub mod Apart
