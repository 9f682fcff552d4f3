pub mod Answering
pub mod Linking
pub mod Reporting
