pub mod Signs
pub mod Back
