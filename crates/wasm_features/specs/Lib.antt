pub mod Features
pub mod Inflated
pub mod Laws
pub mod Sets
