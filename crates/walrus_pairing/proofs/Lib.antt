mod Alike
mod Found
mod Reserved
mod Rest
pub mod RowsFound
pub mod Forth
pub mod Rows
pub mod Bytes
pub mod Kept
pub mod Codes
pub mod Turns
pub mod Facts
pub mod TypesAgain
pub mod Nothing
pub mod Accesses
pub mod Renamed
pub mod Read
pub mod Answered
mod ListRows
mod Tables
