pub mod Constants
pub mod Lists
pub mod Items
pub mod Nothing
