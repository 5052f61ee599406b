pub mod Customs
pub mod Names
pub mod Rising
pub mod Told
