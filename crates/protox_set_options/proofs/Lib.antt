pub mod Files
pub mod ReadBack
pub mod SameViews
pub mod Lemmas
