pub mod Pool
pub mod inner
