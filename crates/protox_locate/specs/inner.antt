pub mod Walk
pub mod Draft
pub mod Kept
