pub mod Folding
pub mod Growing
pub mod Standing
pub mod Found
pub mod Inside
pub mod Packages
pub mod Siblings
pub mod Lemmas
