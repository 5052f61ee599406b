pub mod Code
pub mod Places
