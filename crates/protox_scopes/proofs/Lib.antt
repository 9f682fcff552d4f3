pub mod Meaning
pub mod Outwards
pub mod Renumbered
pub mod TreeSearch
pub mod Lemmas
