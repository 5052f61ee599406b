pub mod Growing
mod Ordering
