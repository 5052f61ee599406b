pub mod Writers
pub mod Lists
