pub mod Runs
pub mod StableSort
pub mod ByNumber
pub mod Steps
