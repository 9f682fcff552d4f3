pub mod WordSlot
pub mod Nesting
pub mod Kept
