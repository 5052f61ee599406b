pub mod Answering
pub mod Taken
mod Rows
mod ClassLemmas
mod NamedTypes
mod Counts
mod Adding
mod Keeping
mod Numbers
mod Declaring
mod DeclaringRuns
mod Scanning
mod Choosing
mod Going
mod Whole
