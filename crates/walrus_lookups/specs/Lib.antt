pub mod Code
pub mod Customs
pub mod Found
pub mod Labels
pub mod Places
