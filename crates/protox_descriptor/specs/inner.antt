pub mod HeldComments
pub mod HeldField
pub mod HeldNumbers
pub mod HeldText
pub mod SameFields
