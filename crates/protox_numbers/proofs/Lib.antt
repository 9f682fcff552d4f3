pub mod Telling
pub mod None
pub mod Rising
pub mod Lemmas
