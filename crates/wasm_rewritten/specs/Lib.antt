pub mod Customs
pub mod Dense
pub mod Exports
pub mod Orderly
pub mod Places
pub mod Rewritten
pub mod Ruled
pub mod Runs
