pub mod Numbered
pub mod Counted
pub mod Same
pub mod Customs
