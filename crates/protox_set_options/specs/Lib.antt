pub mod Read
pub mod ReadBack
