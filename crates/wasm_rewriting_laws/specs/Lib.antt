pub mod Fall
pub mod Rewriting
pub mod Stay
pub mod Told
