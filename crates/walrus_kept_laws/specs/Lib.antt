pub mod Left
pub mod Stay
pub mod Alike
pub mod Seen
pub mod Kept
