pub mod Nearer
