pub mod Frames
pub mod Runs
pub mod Writing
