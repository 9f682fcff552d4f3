pub mod Fields
pub mod Finding
pub mod Said
pub mod Values
pub mod Statements
pub mod Laws
