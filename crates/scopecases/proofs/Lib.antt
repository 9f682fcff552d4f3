pub mod Outer
