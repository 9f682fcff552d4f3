pub mod Left
pub mod Lists
pub mod Oneofs
pub mod Places
pub mod RealFirst
pub mod Lemmas
