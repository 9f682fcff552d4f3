pub mod Keys
pub mod Alike
pub mod inner
