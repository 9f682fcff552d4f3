pub mod Lines
pub mod Order
pub mod First
pub mod Innermost
pub mod Faults
pub mod inner
