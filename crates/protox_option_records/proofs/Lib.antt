pub mod Lists
pub mod Reading
pub mod Records
pub mod Telling
pub mod NoneTold
pub mod Lemmas
