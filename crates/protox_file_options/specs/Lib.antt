pub mod Places
pub mod Moves
pub mod Outcomes
pub mod Interpreted
pub mod Laws
pub mod inner
