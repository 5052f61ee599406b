pub mod Numbers
pub mod Lemmas
pub mod Lists
pub mod Sections
