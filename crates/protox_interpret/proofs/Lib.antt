pub mod Entering
pub mod Kept
pub mod Named
pub mod Giving
pub mod OneAnswer
pub mod Lemmas
