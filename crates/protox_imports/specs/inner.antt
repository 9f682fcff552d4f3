pub mod Numbers
pub mod Marks
pub mod Walk
pub mod Passing
