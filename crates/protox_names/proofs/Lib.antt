pub mod Dots
pub mod Joining
pub mod Found
pub mod Named
pub mod Pieces
pub mod Walking
pub mod Lemmas
