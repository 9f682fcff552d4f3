pub mod OneBehindOther
pub mod Places
pub mod Steps
