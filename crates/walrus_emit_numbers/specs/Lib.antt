pub mod Facts
pub mod Numbers
pub mod Order
pub mod Refusals
pub mod Undeclared
