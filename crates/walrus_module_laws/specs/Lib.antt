pub mod Edits
pub mod Changes
pub mod Given
pub mod Imports
