pub mod Shown
pub mod Excerpts
pub mod Reports
