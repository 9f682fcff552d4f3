pub mod Options
pub mod Lookups
pub mod Met
pub mod First
pub mod Unused
pub mod Searched
pub mod Known
pub mod Names
