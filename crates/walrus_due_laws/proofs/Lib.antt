pub mod Parts
pub mod Lists
pub mod Plain
pub mod Values
pub mod Tables
pub mod Memories
pub mod Tags
pub mod Globals
pub mod Exports
mod Starts
mod Elements
mod Segments
mod DataCounts
mod FunctionTypes
mod Imports
mod Types
mod Rising
mod Listed
pub mod Standard
